-- What the pass puts out sets each register and each place at most once: numbers go up.
use Rattle.std.specs.Prelude.{◌≡◌, refl, ℕ, zero, suc, ◌+◌, ◌<◌, ◌≤◌, ◌==◌, Bool, true, false, List, [], ◌∷◌, length, map, slice_get, Option, Some, None}
use Rattle.std.specs.Map.{lookup}
use Rattle.std.proofs.Common.{arith, sym, ap, subst, ◌⊎◌, inl, inr}
use Rattle.std.proofs.lemmas.Bool.{eqb-true}
use Rattle.sg_words.specs.declared.operators.Ty.{Ty}
use Rattle.sg_words.specs.declared.operators.Ty.TheVariants as ty
use Rattle.sg_layout.specs.declared.shape.NodeShape.{NodeShape}
use Rattle.sg_layout.specs.declared.shape.Shape.{Shape}
use Rattle.sg_layout.specs.Axes.{bounds_of_shape, extent_in, extent_over}
use Rattle.sg_ir.specs.declared.op.Op.{Op}
use Rattle.sg_ir.specs.declared.op.Op.TheVariants as op
use Rattle.sg_ir.specs.declared.op.Step.{Step}
use Rattle.sg_ir.specs.declared.op.Step.TheVariants as step
use Rattle.sg_ir.specs.declared.span.Span.{Span}
use Rattle.sg_ir.specs.Places.{extents_in}
use Rattle.sg_ir.specs.Blocks.{sight_op, Block, End, Word, Spot, Cell, Do, Branch, Loop, SetVar, WriteOwn, Contribute, Wish}
use Rattle.sg_ir.specs.Shared.{same_op, same_step, is_pure}
use Rattle.sg_ir.specs.Trimmed.{is_within}
use Rattle.sg_simplify.specs.steps.Pass.{Given, Pass, Next, Making, made_name, with_name, next_with_reg, next_with_place, given_type, span_in, span_of, renamed, and_op, and_step, put_in_front, set_word, fresh, taken_at, looked_up, operand_again, plainest, taken_or, taken, numbered, stepped_at, stepped, check_at, checks_made, offset_made, offset, descent_of, descended, placed_in, place_made, looped, simplified, layout_seen}
use Rattle.sg_simplify.specs.steps.Counted.{one_where, regs_set, places_set}
use Rattle.sg_simplify.proofs.Tables.{length_push}

-- a number is counted at most once, and not at all below one number, and from another on
pub record IsFrom (from to n : ℕ) (count : ℕ) : Type 0 where
  pub goes : from ≤ to
  pub once : count ≤ 1
  pub below : n < from → count ≡ 0
  pub above : to ≤ n → count ≡ 0

none_from : (from n : ℕ) → IsFrom from from n 0
none_from from n = record { goes = omega arith; once = omega arith; below = λ h. refl; above = λ h. refl }

flag_same : (n : ℕ) → one_where (n == n) ≡ 1
flag_same n = by_test (n == n) (grind arith)
  where
    by_test : (test : Bool) → test ≡ true → one_where test ≡ 1
    by_test true e = refl
    by_test false e = absurd (cc)

flag_other : (m n : ℕ) → ((m ≡ n) → ⊥) → one_where (m == n) ≡ 0
flag_other m n other = by_test (m == n) refl
  where
    by_test : (test : Bool) → (m == n) ≡ test → one_where test ≡ 0
    by_test true e = absurd (other (eqb-true m n e))
    by_test false e = refl

-- one number and then those from the next on
one_from : (from to n count : ℕ) → IsFrom (suc from) to n count → IsFrom from to n (one_where (from == n) + count)
one_from from to n count h = by_test (from == n) refl
  where
    by_test : (test : Bool) → (from == n) ≡ test → IsFrom from to n (one_where (from == n) + count)
    by_test true e =
        let same : from ≡ n = eqb-true from n e in
        let one : one_where (from == n) ≡ 1 = subst (λ k. one_where (from == k) ≡ 1) same (flag_same from) in
        let goes = h.goes in
        let gone : count ≡ 0 = h.below (omega arith) in
        record { goes = omega arith; once = omega arith; below = λ under. absurd (omega arith); above = λ over. absurd (omega arith) }
    by_test false e =
        let zero_flag : one_where (from == n) ≡ 0 = ap one_where e in
        let goes = h.goes in
        let once = h.once in
        record {
          goes = omega arith;
          once = omega arith;
          below = λ under. let gone = h.below (omega arith) in omega arith;
          above = λ over. let gone = h.above over in omega arith;
        }

-- numbers up to one, and then those from it on
both_from : (from mid to n a b : ℕ) → IsFrom from mid n a → IsFrom mid to n b → IsFrom from to n (a + b)
both_from from mid to n a b first second =
    let goes = first.goes in
    let further = second.goes in
    let few = first.once in
    let few' = second.once in
    record {
      goes = omega arith;
      once = few_of (cases n mid);
      below = λ under. let gone = first.below under in let gone' = second.below (omega arith) in omega arith;
      above = λ over. let gone = second.above over in let gone' = first.above (omega arith) in omega arith;
    }
  where
    cases : (n m : ℕ) → (n < m) ⊎ (m ≤ n)
    cases n zero = inr (omega arith)
    cases zero (suc m) = inl (omega arith)
    cases (suc n) (suc m) = more (cases n m)
      where
        more : (n < m) ⊎ (m ≤ n) → (suc n < suc m) ⊎ (suc m ≤ suc n)
        more (inl h) = inl (omega arith)
        more (inr h) = inr (omega arith)

    few_of : (n < mid) ⊎ (mid ≤ n) → a + b ≤ 1
    few_of (inl h) = let gone = second.below h in let few = first.once in omega arith
    few_of (inr h) = let gone = first.above h in let few = second.once in omega arith

word_regs : (r n : ℕ) (how : Op) (index : List ℕ) (rest : Block) → regs_set r (set_word n how index rest) ≡ one_where (n == r) + regs_set r rest
word_regs r n (op.Const word truth) index rest = refl
word_regs r n (op.Var x) index rest = refl
word_regs r n (op.Bin how kind a b) index rest = refl
word_regs r n (op.Un how kind a) index rest = refl
word_regs r n (op.Mulq a b s) index rest = refl
word_regs r n (op.Extract div size from) index rest = refl
word_regs r n (op.Offset high size low) index rest = refl
word_regs r n (op.Read place layout field) index rest = refl
word_regs r n (op.Active place) index rest = refl
word_regs r n (op.OwnRead layout field) index rest = refl

word_places : (p n : ℕ) (how : Op) (index : List ℕ) (rest : Block) → places_set p (set_word n how index rest) ≡ places_set p rest
word_places p n (op.Const word truth) index rest = refl
word_places p n (op.Var x) index rest = refl
word_places p n (op.Bin how kind a b) index rest = refl
word_places p n (op.Un how kind a) index rest = refl
word_places p n (op.Mulq a b s) index rest = refl
word_places p n (op.Extract div size from) index rest = refl
word_places p n (op.Offset high size low) index rest = refl
word_places p n (op.Read place layout field) index rest = refl
word_places p n (op.Active place) index rest = refl
word_places p n (op.OwnRead layout field) index rest = refl

module _ (given : Given) (n : ℕ) where
  -- what is put out gives new numbers alone
  pub record Numbers (next : Next) (made : Block × Next) : Type 0 where
    pub regs : IsFrom (length next.spans) (length made.1.spans) n (regs_set n made.0)
    pub places : IsFrom next.places made.1.places n (places_set n made.0)

  abbrev GoesNumbering : (ℕ → Making) → Type 0
  GoesNumbering go = (t : ℕ) (known : Pass) (next : Next) → Numbers next (go t known next)

  -- a register that is set
  reg_numbers : (type : Ty) (span : Span) (how : Op) (index : List ℕ) (next : Next) (body : Block × Next) → Numbers (next_with_reg type span next) body → Numbers next (put_in_front (set_word (length next.spans) how index) body)
  reg_numbers type span how index next body h =
      let m = length next.spans in
      record {
        regs = subst (λ c. IsFrom m (length body.1.spans) n c) (sym (word_regs n m how index body.0))
            (one_from m (length body.1.spans) n (regs_set n body.0) (subst (λ k. IsFrom k (length body.1.spans) n (regs_set n body.0)) (length_push next.spans span) h.regs));
        places = subst (λ c. IsFrom next.places body.1.places n c) (sym (word_places n m how index body.0)) h.places;
      }

  fresh_numbers : (type : Ty) (how : Op) (index : List ℕ) (go : ℕ → Making) → GoesNumbering go → (known : Pass) (next : Next) → Numbers next (fresh given type how index go known next)
  fresh_numbers type how index go goes known next =
      let span = span_of given known next how in
      reg_numbers type span how index next (go (length next.spans) known (next_with_reg type span next)) (goes (length next.spans) known (next_with_reg type span next))

  looked_up_numbers : (type : Ty) (how : Op) (index : List ℕ) (go : ℕ → Making) → GoesNumbering go → (known : Pass) (next : Next) → Numbers next (looked_up given type how index go known next)
  looked_up_numbers type how index go goes known next = by_found (lookup (same_op how) known.ops)
    where
      by_found : (o : Option ℕ) → Numbers next (taken_at given type how index go o known next)
      by_found (Some t) = goes t known next
      by_found None =
          let span = span_of given known next how in
          let further = and_op how (length next.spans) known in
          reg_numbers type span how index next (go (length next.spans) further (next_with_reg type span next)) (goes (length next.spans) further (next_with_reg type span next))

  taken_numbers : (type : Ty) (how : Op) (index : List ℕ) (go : ℕ → Making) → GoesNumbering go → (known : Pass) (next : Next) → Numbers next (taken given type how index go known next)
  taken_numbers type how index go goes known next = by_operand (operand_again next how)
    where
      by_operand : (o : Option ℕ) → Numbers next (taken_or given type how index go o known next)
      by_operand (Some t) = goes t known next
      by_operand None = looked_up_numbers type (plainest type how) index go goes known next

  numbered_numbers : (pure : Bool) (type : Ty) (how : Op) (go : ℕ → Making) → GoesNumbering go → (known : Pass) (next : Next) → Numbers next (numbered pure given type how go known next)
  numbered_numbers true type how go goes known next = taken_numbers type how [] go goes known next
  numbered_numbers false type how go goes known next = fresh_numbers type how [] go goes known next

  stepped_numbers : (how : Step) (go : ℕ → Making) → GoesNumbering go → (known : Pass) (next : Next) → Numbers next (stepped how go known next)
  stepped_numbers how go goes known next = by_found (lookup (same_step how) known.steps)
    where
      by_found : (o : Option ℕ) → Numbers next (stepped_at how go o known next)
      by_found (Some t) = goes t known next
      by_found None =
          let body = go next.places (and_step how next.places known) (next_with_place next) in
          let h = goes next.places (and_step how next.places known) (next_with_place next) in
          record { regs = h.regs; places = one_from next.places body.1.places n (places_set n body.0) h.places }

  checked_numbers : (extents : List ℕ) (axis : ℕ) (index : List ℕ) (place : ℕ) (go : ℕ → Making) → GoesNumbering go → (known : Pass) (next : Next) → Numbers next (checks_made axis extents index place go known next)
  checked_numbers [] axis index place go goes known next = goes place known next
  checked_numbers (extent ∷ extents) axis [] place go goes known next = goes place known next
  checked_numbers (extent ∷ extents) axis (r ∷ index) place go goes known next = by_test (is_within extent (span_in next r)) (λ p. checked_numbers extents (suc axis) index p go goes)
    where
      by_test : (test : Bool) → GoesNumbering (λ p. checks_made (suc axis) extents index p go) → Numbers next (check_at test (step.Check place axis extent r) place (λ p. checks_made (suc axis) extents index p go) known next)
      by_test true more = more place known next
      by_test false more = stepped_numbers (step.Check place axis extent r) (λ p. checks_made (suc axis) extents index p go) more known next

  joined_numbers : (node : NodeShape) (later : List NodeShape) (index : List ℕ) (axis high : ℕ) (go : ℕ → Making) → GoesNumbering go → (known : Pass) (next : Next) → Numbers next (offset_made given node later axis index high go known next)
  joined_numbers node later [] axis high go goes known next = goes high known next
  joined_numbers node later (r ∷ index) axis high go goes known next =
      taken_numbers ty.U32 (op.Extract (extent_over later axis) (extent_in node.sizes axis) r) [] (λ low. taken given ty.U32 (op.Offset high (extent_in node.sizes axis) low) [] (λ o. offset_made given node later (suc axis) index o go))
      (λ low. taken_numbers ty.U32 (op.Offset high (extent_in node.sizes axis) low) [] (λ o. offset_made given node later (suc axis) index o go) (λ o. joined_numbers node later index (suc axis) o go goes)) known next

  offset_numbers : (node : NodeShape) (later : List NodeShape) (index : List ℕ) (go : ℕ → Making) → GoesNumbering go → (known : Pass) (next : Next) → Numbers next (offset given node later index go known next)
  offset_numbers node later [] go goes known next = goes 0 known next
  offset_numbers node later (r ∷ index) go goes known next =
      taken_numbers ty.U32 (op.Extract (extent_over later 1) (extent_in node.sizes 1) r) [] (λ high. offset_made given node later 2 index high go) (λ high. joined_numbers node later index 2 high go goes) known next

  descended_numbers : (nodes : List NodeShape) (number : ℕ) (index : List ℕ) (place : ℕ) (go : ℕ → Making) → GoesNumbering go → (known : Pass) (next : Next) → Numbers next (descended given nodes number index place go known next)
  descended_numbers [] number index place go goes known next = goes place known next
  descended_numbers (node ∷ later) number index place go goes known next =
      offset_numbers node later index (λ o. stepped (step.Down (descent_of node.kind) place number o) (λ p. descended given later (suc number) index p go))
      (λ o. stepped_numbers (step.Down (descent_of node.kind) place number o) (λ p. descended given later (suc number) index p go) (λ p. descended_numbers later (suc number) index p go goes)) known next

  placed_numbers : (layout : ℕ) (index : List ℕ) (go : ℕ → Making) → GoesNumbering go → (known : Pass) (next : Next) → Numbers next (place_made given layout index go known next)
  placed_numbers layout index go goes known next = by_found (slice_get given.shapes layout)
    where
      by_found : (found : Option Shape) → Numbers next (placed_in given found layout index go known next)
      by_found None = goes 0 known next
      by_found (Some shape) =
          stepped_numbers (step.Root layout) (λ r. checks_made 0 (extents_in (bounds_of_shape shape)) index r (λ p. descended given shape.nodes 1 index p go))
          (λ r. checked_numbers (extents_in (bounds_of_shape shape)) 0 index r (λ p. descended given shape.nodes 1 index p go) (λ p. descended_numbers shape.nodes 1 index p go goes)) known next

  -- after a name that is given
  unnamed_numbers : (next : Next) (to t : ℕ) (made : Block × Next) → Numbers (with_name to t next) made → Numbers next made
  unnamed_numbers next to t made h = record { regs = h.regs; places = h.places }

  pub simplified_numbers : (block : Block) (known : Pass) (next : Next) → Numbers next (simplified given block known next)
  simplified_numbers End known next = record { regs = none_from (length next.spans) n; places = none_from next.places n }
  simplified_numbers (Word to how rest) known next =
      numbered_numbers (is_pure given.single how) (given_type given to) (renamed next how) (λ t now later. simplified given rest now (with_name to t later))
      (λ t now later. unnamed_numbers later to t (simplified given rest now (with_name to t later)) (simplified_numbers rest now (with_name to t later))) known next
  simplified_numbers (Spot to how rest) known next = simplified_numbers rest known next
  simplified_numbers (Cell to place sight index rest) known next =
      placed_numbers (layout_seen given place sight) (map (made_name next) index) (λ p. taken given (given_type given to) (sight_op p sight) (map (made_name next) index) (λ t now later. simplified given rest now (with_name to t later)))
      (λ p. taken_numbers (given_type given to) (sight_op p sight) (map (made_name next) index) (λ t now later. simplified given rest now (with_name to t later))
      (λ t now later. unnamed_numbers later to t (simplified given rest now (with_name to t later)) (simplified_numbers rest now (with_name to t later)))) known next
  simplified_numbers (Do (SetVar set from) rest) known next = let h = simplified_numbers rest known next in record { regs = h.regs; places = h.places }
  simplified_numbers (Do (WriteOwn layout field from stmt) rest) known next = let h = simplified_numbers rest known next in record { regs = h.regs; places = h.places }
  simplified_numbers (Do (Contribute how layout field place from index stmt) rest) known next =
      placed_numbers layout (map (made_name next) index) (λ p now later. put_in_front (Do (Contribute how layout field p (made_name next from) (map (made_name next) index) stmt)) (simplified given rest now later))
      (λ p now later. let h = simplified_numbers rest now later in record { regs = h.regs; places = h.places }) known next
  simplified_numbers (Do (Wish layout index stmt) rest) known next = let h = simplified_numbers rest known next in record { regs = h.regs; places = h.places }
  simplified_numbers (Branch cond block otherwise rest) known next =
      let first = simplified given block known next in
      let second = simplified given otherwise known first.1 in
      let more = simplified given rest known second.1 in
      let a = simplified_numbers block known next in
      let b = simplified_numbers otherwise known first.1 in
      let c = simplified_numbers rest known second.1 in
      record {
        regs = both_from (length next.spans) (length first.1.spans) (length more.1.spans) n (regs_set n first.0) (regs_set n second.0 + regs_set n more.0) a.regs
            (both_from (length first.1.spans) (length second.1.spans) (length more.1.spans) n (regs_set n second.0) (regs_set n more.0) b.regs c.regs);
        places = both_from next.places first.1.places more.1.places n (places_set n first.0) (places_set n second.0 + places_set n more.0) a.places
            (both_from first.1.places second.1.places more.1.places n (places_set n second.0) (places_set n more.0) b.places c.places);
      }
  simplified_numbers (Loop set lo hi body rest) known next =
      let turn = simplified given body (looped set lo hi known) next in
      let more = simplified given rest known turn.1 in
      let a = simplified_numbers body (looped set lo hi known) next in
      let b = simplified_numbers rest known turn.1 in
      record {
        regs = both_from (length next.spans) (length turn.1.spans) (length more.1.spans) n (regs_set n turn.0) (regs_set n more.0) a.regs b.regs;
        places = both_from next.places turn.1.places more.1.places n (places_set n turn.0) (places_set n more.0) a.places b.places;
      }

-- each register and each place of a whole block is set at most once
pub set_once : (given : Given) (block : Block) (known : Pass) (next : Next) (n : ℕ) → (regs_set n (simplified given block known next).0 ≤ 1) × (places_set n (simplified given block known next).0 ≤ 1)
set_once given block known next n = let h = simplified_numbers given n block known next in (h.regs.once, h.places.once)

-- Each check that the pass puts out is passed by an access.
use Rattle.std.specs.Prelude.{◌≡◌, refl, ℕ, suc, ◌<◌, ◌≤◌, ◌==◌, Bool, true, false, ◌||◌, if◌then◌else◌, cond, List, [], ◌∷◌, ◌++◌, length, map, get_or, slice_get, Option, Some, None}
use Rattle.std.specs.List.{list_any}
use Rattle.std.specs.Map.{lookup}
use Rattle.std.proofs.Common.{arith, sym, ap, subst, ◌∙◌}
use Rattle.sg_words.specs.declared.operators.Ty.{Ty}
use Rattle.sg_words.specs.declared.operators.Ty.TheVariants as ty
use Rattle.sg_layout.specs.declared.shape.NodeShape.{NodeShape}
use Rattle.sg_layout.specs.declared.shape.Shape.{Shape}
use Rattle.sg_layout.specs.Axes.{bounds_of_shape, extent_in, extent_over}
use Rattle.sg_ir.specs.declared.op.Op.{Op}
use Rattle.sg_ir.specs.declared.op.Op.TheVariants as op
use Rattle.sg_ir.specs.declared.op.Step.{Step}
use Rattle.sg_ir.specs.declared.op.Step.TheVariants as step
use Rattle.sg_ir.specs.Blocks.{sight_op, Block, End, Word, Spot, Cell, Do, Branch, Loop, SetVar, WriteOwn, Contribute, Wish, Sight, Value, Activity}
use Rattle.sg_ir.specs.Shared.{same_op, same_step, is_pure}
use Rattle.sg_ir.specs.Trimmed.{is_within, AxisCheck, Ways, way_to, checks_of, passed_in, Way, way_of}
use Rattle.sg_ir.specs.InScope.{InScope, and_reg, and_place, op_places, step_places, IsScoped}
use Rattle.sg_ir.specs.Places.{extents_in}
use Rattle.sg_ir.proofs.Uses.{op_exact, step_exact}
use Rattle.sg_simplify.specs.steps.Pass.{Given, Pass, Next, Making, made_name, with_name, next_with_reg, next_with_place, given_type, span_in, span_of, renamed, and_op, and_step, put_in_front, set_word, taken_at, looked_up, operand_again, plainest, taken_or, taken, numbered, stepped_at, stepped, check_at, checks_made, offset_made, offset, descent_of, descended, placed_in, place_made, looped, simplified, layout_seen}
use Rattle.sg_simplify.specs.steps.Serves.{EachByRecursion}
use Rattle.sg_simplify.specs.steps.Ruled.{IsNotRead, HasAccessLayouts, HasLayout}
use Rattle.sg_simplify.specs.steps.Uses.{IsPassed, Used, AreOld, IsUnread, IsPending}
use Rattle.sg_simplify.proofs.Tables.{each_push, each_map, IsFound, each_found}
use Rattle.sg_simplify.proofs.Growing.{grown_on, simplified_grows}
use Rattle.sg_simplify.proofs.Plainest.{plainest_places, plainest_unread}

-- ---- lists
each_both : {A : Type 0} (P : A → Type 0) (xs ys : List A) → EachByRecursion P xs → EachByRecursion P ys → EachByRecursion P (xs ++ ys)
each_both P [] ys first second = second
each_both P (x ∷ xs) ys first second = (first.0, each_both P xs ys first.1 second)

any_left : (xs ys : List AxisCheck) (p : ℕ) → IsPassed xs p → IsPassed (xs ++ ys) p
any_left [] ys p h = absurd (cc)
any_left (x ∷ xs) ys p h = by_test (x.place == p) h (any_left xs ys p)
  where
    by_test : (test : Bool) → (test || list_any (λ (it : AxisCheck). it.place == p) xs) ≡ true → (IsPassed xs p → IsPassed (xs ++ ys) p) → (test || list_any (λ (it : AxisCheck). it.place == p) (xs ++ ys)) ≡ true
    by_test true e more = refl
    by_test false e more = more e

any_right : (xs ys : List AxisCheck) (p : ℕ) → IsPassed ys p → IsPassed (xs ++ ys) p
any_right [] ys p h = h
any_right (x ∷ xs) ys p h = by_test (x.place == p) (any_right xs ys p h)
  where
    by_test : (test : Bool) → IsPassed (xs ++ ys) p → (test || list_any (λ (it : AxisCheck). it.place == p) (xs ++ ys)) ≡ true
    by_test true more = refl
    by_test false more = more

any_last : (xs : List AxisCheck) (it : AxisCheck) → IsPassed (xs ++ it ∷ []) it.place
any_last xs it = any_right xs (it ∷ []) it.place (by_test (it.place == it.place) (grind arith))
  where
    by_test : (test : Bool) → test ≡ true → (test || false) ≡ true
    by_test true e = refl
    by_test false e = absurd (cc)

-- a table in which a key isn't found, with one entry more
none_more : {A : Type 0} (test : A → Bool) (entries : List (A × ℕ)) (key : A) (n : ℕ) → lookup test entries ≡ None → test key ≡ false → lookup test (entries ++ (key, n) ∷ []) ≡ None
none_more test [] key n h off = ap (λ (b : Bool). cond b (Some n) None) off
none_more test (entry ∷ entries) key n h off = by_test (test entry.0) h (λ e. none_more test entries key n e off)
  where
    by_test : (b : Bool) → cond b (Some entry.1) (lookup test entries) ≡ None → (lookup test entries ≡ None → lookup test (entries ++ (key, n) ∷ []) ≡ None) → cond b (Some entry.1) (lookup test (entries ++ (key, n) ∷ [])) ≡ None
    by_test true e more = absurd (cc)
    by_test false e more = more e

-- a key that no entry equals isn't found
none_found : {A : Type 0} (same : A → A → Bool) (key : A) (P : A → Type 0) → ((other : A) → same key other ≡ true → P other → ⊥) → (entries : List (A × ℕ)) → EachByRecursion (λ entry. P entry.0) entries → lookup (same key) entries ≡ None
none_found {A} same key P never [] all = refl
none_found {A} same key P never (entry ∷ entries) all = by_test (same key entry.0) refl (none_found same key P never entries all.1)
  where
    by_test : (test : Bool) → same key entry.0 ≡ test → lookup (same key) entries ≡ None → cond test (Some entry.1) (lookup (same key) entries) ≡ None
    by_test true e more = absurd (never entry.0 e all.0)
    by_test false e more = more

some_none : {A : Type 0} (o : Option ℕ) (t : ℕ) → o ≡ Some t → o ≡ None → A
some_none o t e f = absurd (cc)

-- ---- what is known is old
below_more : (m n : ℕ) → m ≤ n → (ps : List ℕ) → EachByRecursion (λ p. p < m) ps → EachByRecursion (λ p. p < n) ps
below_more m n more [] all = tt
below_more m n more (p ∷ ps) all = let h = all.0 in (omega arith, below_more m n more ps all.1)

old_later : (known : Pass) (next further : Next) → next.places ≤ further.places → AreOld known next → AreOld known further
old_later known next further more h = record {
  ops = each_map (λ entry. EachByRecursion (λ p. p < next.places) (op_places entry.0)) (λ entry. EachByRecursion (λ p. p < further.places) (op_places entry.0)) (λ entry all. below_more next.places further.places more (op_places entry.0) all) known.ops h.ops;
  steps = each_map (λ entry. EachByRecursion (λ p. p < next.places) (step_places entry.0)) (λ entry. EachByRecursion (λ p. p < further.places) (step_places entry.0)) (λ entry all. below_more next.places further.places more (step_places entry.0) all) known.steps h.steps;
  given = each_map (λ entry. entry.1 < next.places) (λ entry. entry.1 < further.places) (λ entry below. omega (arith, below, more)) known.steps h.given;
}

-- a place that is given now isn't read by what is known
unread_new : (known : Pass) (next : Next) → AreOld known next → IsUnread known next.places
unread_new known next h = record {
  reads = λ layout field. none_found same_op (op.Read next.places layout field) (λ other. EachByRecursion (λ p. p < next.places) (op_places other))
      (λ other same old. too_far next.places (subst (λ (o : Op). EachByRecursion (λ p. p < next.places) (op_places o)) (sym (op_exact (op.Read next.places layout field) other same)) old).0) known.ops h.ops;
  asks = none_found same_op (op.Active next.places) (λ other. EachByRecursion (λ p. p < next.places) (op_places other))
      (λ other same old. too_far next.places (subst (λ (o : Op). EachByRecursion (λ p. p < next.places) (op_places o)) (sym (op_exact (op.Active next.places) other same)) old).0) known.ops h.ops;
  steps = λ how reads. none_found same_step how (λ other. EachByRecursion (λ p. p < next.places) (step_places other))
      (λ other same old. too_far next.places (subst (λ (ps : List ℕ). EachByRecursion (λ p. p < next.places) ps) reads (subst (λ (s : Step). EachByRecursion (λ p. p < next.places) (step_places s)) (sym (step_exact how other same)) old)).0) known.steps h.steps;
}
  where
    too_far : (n : ℕ) → n < n → ⊥
    too_far n h = absurd (omega (arith, h))

-- what sees something at a place is no calculation
unlike_extract : (p : ℕ) (sight : Sight) (div size from : ℕ) → same_op (sight_op p sight) (op.Extract div size from) ≡ false
unlike_extract p (Value layout field) div size from = refl
unlike_extract p Activity div size from = refl

unlike_offset : (p : ℕ) (sight : Sight) (high size low : ℕ) → same_op (sight_op p sight) (op.Offset high size low) ≡ false
unlike_offset p (Value layout field) high size low = refl
unlike_offset p Activity high size low = refl

-- ---- instructions in front
used_sight : (ways : Ways) (pending : List ℕ) (n place : ℕ) (sight : Sight) (index : List ℕ) (rest : Block) → Used ways pending rest → Used ways pending (Cell n place sight index rest)
used_sight ways pending n place sight index rest h = record {
  here = each_map (IsPassed (passed_in ways rest)) (IsPassed (way_to ways place ++ passed_in ways rest)) (λ p e. any_right (way_to ways place) (passed_in ways rest) p e) pending h.here;
  own = each_map (IsPassed (passed_in ways rest)) (IsPassed (way_to ways place ++ passed_in ways rest)) (λ p e. any_right (way_to ways place) (passed_in ways rest) p e) (checks_of rest) h.own;
}

used_word : (ways : Ways) (pending : List ℕ) (n : ℕ) (how : Op) (index : List ℕ) (rest : Block) → Used ways pending rest → Used ways pending (set_word n how index rest)
used_word ways pending n (op.Const word truth) index rest h = record { here = h.here; own = h.own }
used_word ways pending n (op.Var var) index rest h = record { here = h.here; own = h.own }
used_word ways pending n (op.Bin how kind a b) index rest h = record { here = h.here; own = h.own }
used_word ways pending n (op.Un how kind a) index rest h = record { here = h.here; own = h.own }
used_word ways pending n (op.Mulq a b s) index rest h = record { here = h.here; own = h.own }
used_word ways pending n (op.Extract div size from) index rest h = record { here = h.here; own = h.own }
used_word ways pending n (op.Offset high size low) index rest h = record { here = h.here; own = h.own }
used_word ways pending n (op.Read place layout field) index rest h = used_sight ways pending n place (Value layout field) index rest h
used_word ways pending n (op.Active place) index rest h = used_sight ways pending n place Activity index rest h
used_word ways pending n (op.OwnRead layout field) index rest h = record { here = h.here; own = h.own }

-- what is pending is passed by an access at the place
pending_passed : (known : Pass) (ways : Ways) (pending : List ℕ) (p : ℕ) (more : List AxisCheck) → IsPending known ways pending p → EachByRecursion (IsPassed (way_to ways p ++ more)) pending
pending_passed known ways [] p more h = tt
pending_passed known ways (check ∷ pending) p more h = each_map (IsPassed (way_to ways p)) (IsPassed (way_to ways p ++ more)) (λ q e. any_left (way_to ways p) more q e) (check ∷ pending) h.0

way_here : (ways : Ways) (n : ℕ) (way : Way) → way_of ((n, way) ∷ ways) n ≡ way
way_here ways n way = by_test (n == n) (grind arith)
  where
    by_test : (test : Bool) → test ≡ true → (if test then way else way_of ways n) ≡ way
    by_test true e = refl
    by_test false e = absurd (cc)

module _ (given : Given) where
  -- what follows has its checks passed
  abbrev GoesUsed : Ways → List ℕ → ℕ → (ℕ → Making) → Type 0
  GoesUsed ways pending p go = (t : ℕ) (known : Pass) (next : Next) → AreOld known next → p < next.places → IsPending known ways pending p → Used ways pending (go t known next).0

  abbrev GoesUsedAt : (ℕ → Making) → Type 0
  GoesUsedAt go = (pending : List ℕ) (t : ℕ) (known : Pass) (next : Next) (ways : Ways) → AreOld known next → t < next.places → IsPending known ways pending t → Used ways pending (go t known next).0

  -- a calculation reads no place
  pending_op : (known : Pass) (ways : Ways) (pending : List ℕ) (p n : ℕ) (how : Op) → ((sight : Sight) → same_op (sight_op p sight) how ≡ false) → IsPending known ways pending p → IsPending (and_op how n known) ways pending p
  pending_op known ways [] p n how off h = tt
  pending_op known ways (check ∷ pending) p n how off h = (
    h.0,
    record {
      reads = λ layout field. none_more (same_op (op.Read p layout field)) known.ops how n (h.1.reads layout field) (off (Value layout field));
      asks = none_more (same_op (op.Active p)) known.ops how n h.1.asks (off Activity);
      steps = h.1.steps;
    },
  )

  looked_up_uses : (type : Ty) (how : Op) (go : ℕ → Making) (ways : Ways) (pending : List ℕ) (p : ℕ) (known : Pass) (next : Next) → op_places how ≡ [] → ((sight : Sight) → same_op (sight_op p sight) how ≡ false)
      → AreOld known next → p < next.places → IsPending known ways pending p → GoesUsed ways pending p go → Used ways pending (looked_up given type how [] go known next).0
  looked_up_uses type how go ways pending p known next none off old below is goes = by_found (lookup (same_op how) known.ops)
    where
      by_found : (o : Option ℕ) → Used ways pending (taken_at given type how [] go o known next).0
      by_found (Some t) = goes t known next old below is
      by_found None = let n = length next.spans in
          used_word ways pending n how [] _ (goes n (and_op how n known) (next_with_reg type (span_of given known next how) next)
          (record { ops = each_push (λ entry. EachByRecursion (λ q. q < next.places) (op_places entry.0)) known.ops (how, n) old.ops (subst (λ (ps : List ℕ). EachByRecursion (λ q. q < next.places) ps) (sym none) tt); steps = old.steps; given = old.given })
          below (pending_op known ways pending p n how off is))

  calc_uses : (type : Ty) (how : Op) (go : ℕ → Making) (ways : Ways) (pending : List ℕ) (p : ℕ) (known : Pass) (next : Next) → op_places how ≡ [] → ((sight : Sight) → same_op (sight_op p sight) how ≡ false)
      → AreOld known next → p < next.places → IsPending known ways pending p → GoesUsed ways pending p go → Used ways pending (taken given type how [] go known next).0
  calc_uses type how go ways pending p known next none off old below is goes = by_operand (operand_again next how)
    where
      by_operand : (o : Option ℕ) → Used ways pending (taken_or given type how [] go o known next).0
      by_operand (Some t) = goes t known next old below is
      by_operand None = looked_up_uses type (plainest type how) go ways pending p known next (plainest_places type how ∙ none) (λ sight. plainest_unread type how p sight (off sight)) old below is goes

  joined_uses : (node : NodeShape) (later : List NodeShape) (index : List ℕ) (axis high : ℕ) (go : ℕ → Making) (ways : Ways) (pending : List ℕ) (p : ℕ) (known : Pass) (next : Next)
      → AreOld known next → p < next.places → IsPending known ways pending p → GoesUsed ways pending p go → Used ways pending (offset_made given node later axis index high go known next).0
  joined_uses node later [] axis high go ways pending p known next old below is goes = goes high known next old below is
  joined_uses node later (r ∷ index) axis high go ways pending p known next old below is goes =
      calc_uses ty.U32 (op.Extract (extent_over later axis) (extent_in node.sizes axis) r) (λ low. taken given ty.U32 (op.Offset high (extent_in node.sizes axis) low) [] (λ o. offset_made given node later (suc axis) index o go)) ways pending p known next refl (λ sight. unlike_extract p sight (extent_over later axis) (extent_in node.sizes axis) r) old below is
      (λ low known' further old' below' is'. calc_uses ty.U32 (op.Offset high (extent_in node.sizes axis) low) (λ o. offset_made given node later (suc axis) index o go) ways pending p known' further refl (λ sight. unlike_offset p sight high (extent_in node.sizes axis) low) old' below' is'
      (λ o known'' further' old'' below'' is''. joined_uses node later index (suc axis) o go ways pending p known'' further' old'' below'' is'' goes))

  offset_uses : (node : NodeShape) (later : List NodeShape) (index : List ℕ) (go : ℕ → Making) (ways : Ways) (pending : List ℕ) (p : ℕ) (known : Pass) (next : Next)
      → AreOld known next → p < next.places → IsPending known ways pending p → GoesUsed ways pending p go → Used ways pending (offset given node later index go known next).0
  offset_uses node later [] go ways pending p known next old below is goes = goes 0 known next old below is
  offset_uses node later (r ∷ index) go ways pending p known next old below is goes =
      calc_uses ty.U32 (op.Extract (extent_over later 1) (extent_in node.sizes 1) r) (λ high. offset_made given node later 2 index high go) ways pending p known next refl (λ sight. unlike_extract p sight (extent_over later 1) (extent_in node.sizes 1) r) old below is
      (λ high known' further old' below' is'. joined_uses node later index 2 high go ways pending p known' further old' below' is' goes)

  old_step : (known : Pass) (next : Next) (how : Step) → EachByRecursion (λ p. p < next.places) (step_places how) → AreOld known next → AreOld (and_step how next.places known) (next_with_place next)
  old_step known next how below old = let later = old_later known next (next_with_place next) (omega arith) old in record {
    ops = later.ops;
    steps = each_push (λ entry. EachByRecursion (λ p. p < suc next.places) (step_places entry.0)) known.steps (how, next.places) later.steps (below_more next.places (suc next.places) (omega arith) (step_places how) below);
    given = each_push (λ entry. entry.1 < suc next.places) known.steps (how, next.places) later.given (omega arith);
  }

  -- a place that was put out now, after a step from another
  unread_step : (known : Pass) (next : Next) (how : Step) (p : ℕ) → step_places how ≡ p ∷ [] → p < next.places → AreOld known next → IsUnread (and_step how next.places known) next.places
  unread_step known next how p reads below old = let h = unread_new known next old in record {
    reads = h.reads;
    asks = h.asks;
    steps = λ other is. none_more (same_step other) known.steps how next.places (h.steps other is) (by_test other is (same_step other how) refl);
  }
    where
      head_is : (a b : ℕ) → a ∷ [] ≡ b ∷ [] → a ≡ b
      head_is a b e = ap (λ (xs : List ℕ). get_or xs 0 0) e

      by_test : (other : Step) → step_places other ≡ next.places ∷ [] → (test : Bool) → same_step other how ≡ test → same_step other how ≡ false
      by_test other is true e = let same : p ≡ next.places = head_is p next.places (sym reads ∙ (ap step_places (sym (step_exact other how e)) ∙ is)) in absurd (omega arith)
      by_test other is false e = e

  -- one step on from a place
  down_uses : (descent : _) (place number o : ℕ) (go : ℕ → Making) (ways : Ways) (pending : List ℕ) (known : Pass) (next : Next) → AreOld known next → place < next.places → IsPending known ways pending place → GoesUsedAt go
      → Used ways pending (stepped (step.Down descent place number o) go known next).0
  down_uses descent place number o go ways pending known next old below is goes = by_found (lookup (same_step (step.Down descent place number o)) known.steps) refl pending is
    where
      how : Step
      how = step.Down descent place number o

      by_found : (found : Option ℕ) → lookup (same_step how) known.steps ≡ found → (waits : List ℕ) → IsPending known ways waits place → Used ways waits (stepped_at how go found known next).0
      by_found (Some t) e [] h = let found : IsFound same_step how (λ entry. entry.1 < next.places) t = each_found same_step how (λ entry. entry.1 < next.places) known.steps t old.given e in goes [] t known next ways old found.holds tt
      by_found (Some t) e (check ∷ waits) h = some_none (lookup (same_step how) known.steps) t e (h.1.steps how refl)
      by_found None e [] h =
          let n = next.places in
          let more = goes [] n (and_step how n known) (next_with_place next) ((n, way_of ways place) ∷ ways) (old_step known next how (below, tt) old) (omega arith) tt in
          record { here = tt; own = more.own }
      by_found None e (check ∷ waits) h =
          let n = next.places in
          let more = goes (check ∷ waits) n (and_step how n known) (next_with_place next) ((n, way_of ways place) ∷ ways) (old_step known next how (below, tt) old) (omega arith)
          (subst (λ (w : Way). EachByRecursion (IsPassed w.checks) (check ∷ waits)) (sym (way_here ways n (way_of ways place))) h.0, unread_step known next how place refl below old) in
          record { here = more.here; own = more.own }

  -- one check
  check_uses : (place axis extent r : ℕ) (go : ℕ → Making) (ways : Ways) (pending : List ℕ) (known : Pass) (next : Next) → AreOld known next → place < next.places → IsPending known ways pending place → GoesUsedAt go
      → Used ways pending (stepped (step.Check place axis extent r) go known next).0
  check_uses place axis extent r go ways pending known next old below is goes = by_found (lookup (same_step (step.Check place axis extent r)) known.steps) refl pending is
    where
      how : Step
      how = step.Check place axis extent r

      by_found : (found : Option ℕ) → lookup (same_step how) known.steps ≡ found → (waits : List ℕ) → IsPending known ways waits place → Used ways waits (stepped_at how go found known next).0
      by_found (Some t) e [] h = let found : IsFound same_step how (λ entry. entry.1 < next.places) t = each_found same_step how (λ entry. entry.1 < next.places) known.steps t old.given e in goes [] t known next ways old found.holds tt
      by_found (Some t) e (check ∷ waits) h = some_none (lookup (same_step how) known.steps) t e (h.1.steps how refl)
      by_found None e waits h =
          let n = next.places in
          let it : AxisCheck = record { axis = axis; index = r; place = n } in
          let way : Way = record { root = (way_of ways place).root; checks = way_to ways place ++ it ∷ [] } in
          let more = goes (n ∷ waits) n (and_step how n known) (next_with_place next) ((n, way) ∷ ways) (old_step known next how (below, tt) old) (omega arith)
          (subst (λ (w : Way). EachByRecursion (IsPassed w.checks) (n ∷ waits)) (sym (way_here ways n way)) (any_last (way_to ways place) it, pending_passed known ways waits place (it ∷ []) h), unread_step known next how place refl below old) in
          record { here = more.here.1; own = (more.here.0, more.own) }

  checked_uses : (extents : List ℕ) (axis : ℕ) (index : List ℕ) (place : ℕ) (go : ℕ → Making) (ways : Ways) (pending : List ℕ) (known : Pass) (next : Next) → AreOld known next → place < next.places → IsPending known ways pending place → GoesUsedAt go
      → Used ways pending (checks_made axis extents index place go known next).0
  checked_uses [] axis index place go ways pending known next old below is goes = goes pending place known next ways old below is
  checked_uses (extent ∷ extents) axis [] place go ways pending known next old below is goes = goes pending place known next ways old below is
  checked_uses (extent ∷ extents) axis (r ∷ index) place go ways pending known next old below is goes = by_test (is_within extent (span_in next r))
      (checked_uses extents (suc axis) index place go ways pending known next old below is goes)
      (λ waits p known' further beyond old' below' is'. checked_uses extents (suc axis) index p go beyond waits known' further old' below' is' goes)
    where
      by_test : (test : Bool) → Used ways pending (checks_made (suc axis) extents index place go known next).0 → GoesUsedAt (λ p. checks_made (suc axis) extents index p go)
          → Used ways pending (check_at test (step.Check place axis extent r) place (λ p. checks_made (suc axis) extents index p go) known next).0
      by_test true same more = same
      by_test false same more = check_uses place axis extent r (λ p. checks_made (suc axis) extents index p go) ways pending known next old below is more

  descended_uses : (nodes : List NodeShape) (number : ℕ) (index : List ℕ) (place : ℕ) (go : ℕ → Making) (ways : Ways) (pending : List ℕ) (known : Pass) (next : Next) → AreOld known next → place < next.places → IsPending known ways pending place → GoesUsedAt go
      → Used ways pending (descended given nodes number index place go known next).0
  descended_uses [] number index place go ways pending known next old below is goes = goes pending place known next ways old below is
  descended_uses (node ∷ later) number index place go ways pending known next old below is goes =
      offset_uses node later index (λ o. stepped (step.Down (descent_of node.kind) place number o) (λ p. descended given later (suc number) index p go)) ways pending place known next old below is
      (λ o known' further old' below' is'. down_uses (descent_of node.kind) place number o (λ p. descended given later (suc number) index p go) ways pending known' further old' below' is'
      (λ waits p known'' further' beyond old'' below'' is''. descended_uses later (suc number) index p go beyond waits known'' further' old'' below'' is'' goes))

  root_uses : (layout : ℕ) (go : ℕ → Making) (ways : Ways) (known : Pass) (next : Next) → AreOld known next → GoesUsedAt go → Used ways [] (stepped (step.Root layout) go known next).0
  root_uses layout go ways known next old goes = by_found (lookup (same_step (step.Root layout)) known.steps) refl
    where
      by_found : (found : Option ℕ) → lookup (same_step (step.Root layout)) known.steps ≡ found → Used ways [] (stepped_at (step.Root layout) go found known next).0
      by_found (Some t) e = let found : IsFound same_step (step.Root layout) (λ entry. entry.1 < next.places) t = each_found same_step (step.Root layout) (λ entry. entry.1 < next.places) known.steps t old.given e in goes [] t known next ways old found.holds tt
      by_found None e = let n = next.places in
          let more = goes [] n (and_step (step.Root layout) n known) (next_with_place next) ((n, record { root = Some layout; checks = [] }) ∷ ways) (old_step known next (step.Root layout) tt old) (omega arith) tt in
          record { here = tt; own = more.own }

  placed_uses : (shape : Shape) (layout : ℕ) (index : List ℕ) (go : ℕ → Making) (ways : Ways) (known : Pass) (next : Next) → slice_get given.shapes layout ≡ Some shape → AreOld known next → GoesUsedAt go → Used ways [] (place_made given layout index go known next).0
  placed_uses shape layout index go ways known next there old goes =
      subst (λ (found : Option Shape). Used ways [] (placed_in given found layout index go known next).0) (sym there)
      (root_uses layout (λ k. checks_made 0 (extents_in (bounds_of_shape shape)) index k (λ p. descended given shape.nodes 1 index p go)) ways known next old
      (λ waits k known' further beyond old' below' is'. checked_uses (extents_in (bounds_of_shape shape)) 0 index k (λ p. descended given shape.nodes 1 index p go) beyond waits known' further old' below' is'
      (λ waits' p known'' further' beyond' old'' below'' is''. descended_uses shape.nodes 1 index p go beyond' waits' known'' further' old'' below'' is'' goes)))

  -- what is seen at a place that was built for it
  read_uses : (type : Ty) (p : ℕ) (sight : Sight) (index : List ℕ) (go : ℕ → Making) (ways : Ways) (pending : List ℕ) (known : Pass) (next : Next) → AreOld known next → p < next.places → IsPending known ways pending p
      → ((t : ℕ) (known' : Pass) (further : Next) → AreOld known' further → Used ways [] (go t known' further).0) → Used ways pending (taken given type (sight_op p sight) index go known next).0
  read_uses type p sight index go ways pending known next old below is goes = by_sight sight
    where
      by_sight : (it : Sight) → Used ways pending (taken given type (sight_op p it) index go known next).0
      by_sight (Value layout field) = by_found (lookup (same_op how) known.ops) refl pending is
        where
          how : Op
          how = op.Read p layout field

          by_found : (found : Option ℕ) → lookup (same_op how) known.ops ≡ found → (waits : List ℕ) → IsPending known ways waits p → Used ways waits (taken_at given type how index go found known next).0
          by_found (Some t) e [] h = goes t known next old
          by_found (Some t) e (check ∷ waits) h = some_none (lookup (same_op how) known.ops) t e (h.1.reads layout field)
          by_found None e waits h =
              let n = length next.spans in
              let more = goes n (and_op how n known) (next_with_reg type (span_of given known next how) next)
              (record { ops = each_push (λ entry. EachByRecursion (λ q. q < next.places) (op_places entry.0)) known.ops (how, n) old.ops (below, tt); steps = old.steps; given = old.given }) in
              record {
                here = pending_passed known ways waits p (passed_in ways (go n (and_op how n known) (next_with_reg type (span_of given known next how) next)).0) h;
                own = each_map (IsPassed (passed_in ways (go n (and_op how n known) (next_with_reg type (span_of given known next how) next)).0)) (IsPassed (way_to ways p ++ passed_in ways (go n (and_op how n known) (next_with_reg type (span_of given known next how) next)).0))
                    (λ q e. any_right (way_to ways p) _ q e) _ more.own;
              }
      by_sight Activity = by_found (lookup (same_op how) known.ops) refl pending is
        where
          how : Op
          how = op.Active p

          by_found : (found : Option ℕ) → lookup (same_op how) known.ops ≡ found → (waits : List ℕ) → IsPending known ways waits p → Used ways waits (taken_at given type how index go found known next).0
          by_found (Some t) e [] h = goes t known next old
          by_found (Some t) e (check ∷ waits) h = some_none (lookup (same_op how) known.ops) t e (h.1.asks)
          by_found None e waits h =
              let n = length next.spans in
              let more = goes n (and_op how n known) (next_with_reg type (span_of given known next how) next)
              (record { ops = each_push (λ entry. EachByRecursion (λ q. q < next.places) (op_places entry.0)) known.ops (how, n) old.ops (below, tt); steps = old.steps; given = old.given }) in
              record {
                here = pending_passed known ways waits p (passed_in ways (go n (and_op how n known) (next_with_reg type (span_of given known next how) next)).0) h;
                own = each_map (IsPassed (passed_in ways (go n (and_op how n known) (next_with_reg type (span_of given known next how) next)).0)) (IsPassed (way_to ways p ++ passed_in ways (go n (and_op how n known) (next_with_reg type (span_of given known next how) next)).0))
                    (λ q e. any_right (way_to ways p) _ q e) _ more.own;
              }

  plain_uses : (pure : Bool) (type : Ty) (how : Op) (go : ℕ → Making) (ways : Ways) (known : Pass) (next : Next) → op_places how ≡ [] → AreOld known next → ((t : ℕ) (known' : Pass) (further : Next) → AreOld known' further → Used ways [] (go t known' further).0)
      → Used ways [] (numbered pure given type how go known next).0
  plain_uses false type how go ways known next none old goes = used_word ways [] (length next.spans) how [] _ (goes (length next.spans) known (next_with_reg type (span_of given known next how) next) (record { ops = old.ops; steps = old.steps; given = old.given }))
  plain_uses true type how go ways known next none old goes = by_operand (operand_again next how)
    where
      how' : Op
      how' = plainest type how

      by_found : (o : Option ℕ) → Used ways [] (taken_at given type how' [] go o known next).0
      by_found (Some t) = goes t known next old
      by_found None = let n = length next.spans in
          used_word ways [] n how' [] _ (goes n (and_op how' n known) (next_with_reg type (span_of given known next how') next)
          (record { ops = each_push (λ entry. EachByRecursion (λ q. q < next.places) (op_places entry.0)) known.ops (how', n) old.ops (subst (λ (ps : List ℕ). EachByRecursion (λ q. q < next.places) ps) (sym (plainest_places type how ∙ none)) tt); steps = old.steps; given = old.given }))

      by_operand : (o : Option ℕ) → Used ways [] (taken_or given type how [] go o known next).0
      by_operand (Some t) = goes t known next old
      by_operand None = by_found (lookup (same_op how') known.ops)

plain_places : (next : Next) (how : Op) → IsNotRead how → op_places (renamed next how) ≡ []
plain_places next (op.Const word truth) plain = refl
plain_places next (op.Var var) plain = refl
plain_places next (op.Bin how kind a b) plain = refl
plain_places next (op.Un how kind a) plain = refl
plain_places next (op.Mulq a b s) plain = refl
plain_places next (op.Extract div size from) plain = refl
plain_places next (op.Offset high size low) plain = refl
plain_places next (op.Read place layout field) plain = absurd plain
plain_places next (op.Active place) plain = absurd plain
plain_places next (op.OwnRead layout field) plain = refl

-- a block in front of another, or in it
used_both : (a b : List AxisCheck) (xs ys : List ℕ) → EachByRecursion (IsPassed a) xs → EachByRecursion (IsPassed b) ys → EachByRecursion (IsPassed (a ++ b)) (xs ++ ys)
used_both a b xs ys first second = each_both (IsPassed (a ++ b)) xs ys (each_map (IsPassed a) (IsPassed (a ++ b)) (λ p e. any_left a b p e) xs first) (each_map (IsPassed b) (IsPassed (a ++ b)) (λ p e. any_right a b p e) ys second)

module _ (given : Given) where
  pub simplified_uses : (block : Block) (inner : InScope) (known : Pass) (next : Next) (ways : Ways) → IsScoped inner block → HasAccessLayouts given.shapes given.roots block → AreOld known next → Used ways [] (simplified given block known next).0
  simplified_uses End inner known next ways scoped fitted old = record { here = tt; own = tt }
  simplified_uses (Word to how rest) inner known next ways scoped fitted old =
      plain_uses given (is_pure given.single how) (given_type given to) (renamed next how) (λ t now later. simplified given rest now (with_name to t later)) ways known next (plain_places next how fitted.0) old
      (λ t known' further old'. simplified_uses rest (and_reg to inner) known' (with_name to t further) ways scoped.3 fitted.1 (record { ops = old'.ops; steps = old'.steps; given = old'.given }))
  simplified_uses (Spot to how rest) inner known next ways scoped fitted old = simplified_uses rest (and_place to inner) known next ways scoped.3 fitted old
  simplified_uses (Cell to place sight [] rest) inner known next ways scoped fitted old = absurd fitted.0
  simplified_uses (Cell to place sight (r ∷ index) rest) inner known next ways scoped fitted old =
      let fresh_index = map (made_name next) (r ∷ index) in
      let layout = layout_seen given place sight in
      let has : HasLayout given.shapes layout (length (r ∷ index)) = fitted.0 in
      placed_uses given has.shape layout fresh_index (λ p. taken given (given_type given to) (sight_op p sight) fresh_index (λ t now later. simplified given rest now (with_name to t later))) ways known next has.there old
      (λ waits p known' further beyond old' below is. read_uses given (given_type given to) p sight fresh_index (λ t now later. simplified given rest now (with_name to t later)) beyond waits known' further old' below is
      (λ t known'' further' old''. simplified_uses rest (and_reg to inner) known'' (with_name to t further') beyond scoped.2 fitted.1 (record { ops = old''.ops; steps = old''.steps; given = old''.given })))
  simplified_uses (Do (SetVar var reg) rest) inner known next ways scoped fitted old = let more = simplified_uses rest inner known next ways scoped.2 fitted.1 old in record { here = tt; own = more.own }
  simplified_uses (Do (WriteOwn layout field reg stmt) rest) inner known next ways scoped fitted old = let more = simplified_uses rest inner known next ways scoped.2 fitted.1 old in record { here = tt; own = more.own }
  simplified_uses (Do (Contribute how layout field place reg [] stmt) rest) inner known next ways scoped fitted old = absurd fitted.0
  simplified_uses (Do (Contribute how layout field place reg (r ∷ index) stmt) rest) inner known next ways scoped fitted old =
      let fresh_index = map (made_name next) (r ∷ index) in
      let has : HasLayout given.shapes layout (length (r ∷ index)) = fitted.0 in
      placed_uses given has.shape layout fresh_index (λ p now later. put_in_front (Do (Contribute how layout field p (made_name next reg) fresh_index stmt)) (simplified given rest now later)) ways known next has.there old
      (λ waits p known' further beyond old' below is.
      let more = simplified_uses rest inner known' further beyond scoped.2 fitted.1 old' in
      record {
        here = pending_passed known' beyond waits p (passed_in beyond (simplified given rest known' further).0) is;
        own = each_map (IsPassed (passed_in beyond (simplified given rest known' further).0)) (IsPassed (way_to beyond p ++ passed_in beyond (simplified given rest known' further).0)) (λ q e. any_right (way_to beyond p) _ q e) _ more.own;
      })
  simplified_uses (Do (Wish layout index stmt) rest) inner known next ways scoped fitted old = let more = simplified_uses rest inner known next ways scoped.2 fitted.1 old in record { here = tt; own = more.own }
  simplified_uses (Branch cond block otherwise rest) inner known next ways scoped fitted old =
      let first = simplified given block known next in
      let second = simplified given otherwise known first.1 in
      let grown = simplified_grows given block inner scoped.1 known next in
      let grown' = grown_on inner next first.1 second.1 grown (simplified_grows given otherwise inner scoped.2 known first.1) in
      let a = simplified_uses block inner known next ways scoped.1 fitted.0 old in
      let b = simplified_uses otherwise inner known first.1 ways scoped.2 fitted.1 (old_later known next first.1 grown.places old) in
      let c = simplified_uses rest inner known second.1 ways scoped.3 fitted.2 (old_later known next second.1 grown'.places old) in
      record {
        here = tt;
        own = used_both (passed_in ways first.0) (passed_in ways second.0 ++ passed_in ways (simplified given rest known second.1).0) (checks_of first.0) (checks_of second.0 ++ checks_of (simplified given rest known second.1).0) a.own
            (used_both (passed_in ways second.0) (passed_in ways (simplified given rest known second.1).0) (checks_of second.0) (checks_of (simplified given rest known second.1).0) b.own c.own);
      }
  simplified_uses (Loop var lo hi body rest) inner known next ways scoped fitted old =
      let turn = simplified given body (looped var lo hi known) next in
      let grown = simplified_grows given body inner scoped.0 (looped var lo hi known) next in
      let a = simplified_uses body inner (looped var lo hi known) next ways scoped.0 fitted.0 (record { ops = old.ops; steps = old.steps; given = old.given }) in
      let b = simplified_uses rest inner known turn.1 ways scoped.1 fitted.1 (old_later known next turn.1 grown.places old) in
      record {
        here = tt;
        own = used_both (passed_in ways turn.0) (passed_in ways (simplified given rest known turn.1).0) (checks_of turn.0) (checks_of (simplified given rest known turn.1).0) a.own b.own;
      }

-- A word or a place that the pass takes serves what follows: it is known already, or it is put out.
use Rattle.std.specs.Prelude.{◌≡◌, refl, ℕ, suc, ◌<◌, ◌≤◌, ◌==◌, Bool, true, false, if◌then◌else◌, List, [], ◌∷◌, ◌++◌, length, get_or, Option, Some, None}
use Rattle.std.specs.Map.{lookup}
use Rattle.std.proofs.Common.{arith, sym, ap, subst, ◌∙◌}
use Rattle.std.proofs.lemmas.Bool.{eqb-true}
use Rattle.sg_words.specs.declared.operators.Ty.{Ty}
use Rattle.sg_ir.specs.declared.op.Op.{Op}
use Rattle.sg_ir.specs.declared.op.Op.TheVariants as op
use Rattle.sg_ir.specs.declared.op.Step.{Step}
use Rattle.sg_ir.specs.declared.op.Step.TheVariants as step
use Rattle.sg_ir.specs.Runs.{Seen, Place, put}
use Rattle.sg_ir.specs.Blocks.{Block}
use Rattle.sg_ir.specs.declared.span.Span.{Span}
use Rattle.sg_ir.specs.Span.{whole_i32}
use Rattle.sg_ir.specs.Shared.{same_op, same_step}
use Rattle.sg_ir.specs.SpanLaws.{Lies, HasConstantWord}
use Rattle.sg_ir.specs.Scoped.{RunMoment, Room, room_reg, room_place, op_word, step_root, step_place, run}
use Rattle.sg_simplify.specs.steps.Pass.{Given, Pass, Next, Making, next_with_reg, next_with_place, span_in, vars_of, span_of, and_op, and_step, put_in_front, set_word, fresh, taken_at, looked_up, operand_again, plainest, taken_or, taken, stepped_at, stepped}
use Rattle.sg_simplify.specs.steps.Serves.{Laws, NamesAll, OpBelow, StepBelow, OpStays, OpHolds, StepHolds, HoldsInRoom, Later, Alike, Good, Serves, ServesPlace, OpIsAt, OpLies}
use Rattle.sg_simplify.proofs.Tables.{each_push, each_map, IsFound, each_found, length_push, get_last, get_kept}
use Rattle.sg_simplify.proofs.Plainest.{operand_holds, plainest_constant, plainest_below, plainest_stays, plainest_lies, plainest_at, plainest_word}

-- ---- a number that is given something new, and the others
put_here : {A : Type 0} (to : ℕ) (x : A) (f : ℕ → A) → put to x f to ≡ x
put_here {A} to x f = by_test (to == to) (grind arith)
  where
    by_test : (test : Bool) → test ≡ true → (if test then x else f to) ≡ x
    by_test true e = refl
    by_test false e = absurd (cc)

put_below : {A : Type 0} (to : ℕ) (x : A) (f : ℕ → A) (r : ℕ) → r < to → put to x f r ≡ f r
put_below {A} to x f r below = by_test (r == to) refl
  where
    by_test : (test : Bool) → (r == to) ≡ test → (if test then x else f r) ≡ f r
    by_test true e = let is : r ≡ to = eqb-true r to e in absurd (omega arith)
    by_test false e = refl

put_lies : (to word : ℕ) (f : ℕ → ℕ) → ((r : ℕ) → Lies whole_i32 (f r)) → Lies whole_i32 word → (r : ℕ) → Lies whole_i32 (put to word f r)
put_lies to word f all one r = by_test (r == to)
  where
    by_test : (test : Bool) → Lies whole_i32 (if test then word else f r)
    by_test true = one
    by_test false = all r

-- ---- later
pub later_same : (next : Next) (room : Room) → Later next room next room
later_same next room = record {
  regs = omega arith;
  places = omega arith;
  spans = λ r below. refl;
  kept = λ r below. refl;
  kept_places = λ p below. refl;
  kept_roots = λ p below. refl;
}

pub later_on : (a : Next) (r : Room) (b : Next) (s : Room) (c : Next) (t : Room) → Later a r b s → Later b s c t → Later a r c t
later_on a r b s c t first second = let more = first.regs in let places = first.places in let more' = second.regs in let places' = second.places in record {
  regs = omega arith;
  places = omega arith;
  spans = λ k below. second.spans k (omega (arith, below)) ∙ first.spans k below;
  kept = λ k below. second.kept k (omega (arith, below)) ∙ first.kept k below;
  kept_places = λ p below. second.kept_places p (omega (arith, below)) ∙ first.kept_places p below;
  kept_roots = λ p below. second.kept_roots p (omega (arith, below)) ∙ first.kept_roots p below;
}

pub alike_same : (pass : Pass) (next : Next) → Alike pass next pass next
alike_same pass next = record { loops = refl; names = refl }

pub alike_on : (pass : Pass) (next : Next) (known : Pass) (further : Next) (known' : Pass) (further' : Next) → Alike pass next known further → Alike known further known' further' → Alike pass next known' further'
alike_on pass next known further known' further' first second = record { loops = second.loops ∙ first.loops; names = second.names ∙ first.names }

-- ---- what is below stays
op_below : (how : Op) (m n p q : ℕ) → m ≤ n → p ≤ q → OpBelow m p how → OpBelow n q how
op_below (op.Const word truth) m n p q more places h = tt
op_below (op.Var var) m n p q more places h = tt
op_below (op.Bin how kind a b) m n p q more places h = let x = h.0 in let y = h.1 in (omega arith, omega arith)
op_below (op.Un how kind a) m n p q more places h = omega arith
op_below (op.Mulq a b s) m n p q more places h = let x = h.0 in let y = h.1 in let z = h.2 in (omega arith, omega arith, omega arith)
op_below (op.Extract div size from) m n p q more places h = omega arith
op_below (op.Offset high size low) m n p q more places h = let x = h.0 in let y = h.1 in (omega arith, omega arith)
op_below (op.Read place layout field) m n p q more places h = omega arith
op_below (op.Active place) m n p q more places h = omega arith
op_below (op.OwnRead layout field) m n p q more places h = tt

step_below : (how : Step) (m n p q : ℕ) → m ≤ n → p ≤ q → StepBelow m p how → StepBelow n q how
step_below (step.Root layout) m n p q more places h = tt
step_below (step.Check place axis extent index) m n p q more places h = let x = h.0 in let y = h.1 in (omega arith, omega arith)
step_below (step.Down descent place node offset) m n p q more places h = let x = h.0 in let y = h.1 in (omega arith, omega arith)

module _ (seen : Seen) where
  op_kept : (next : Next) (room : Room) (further : Next) (beyond : Room) (now : RunMoment) → Later next room further beyond → (how : Op) → OpBelow (length next.spans) next.places how
      → op_word seen beyond now how ≡ op_word seen room now how
  op_kept next room further beyond now later (op.Const word truth) below = refl
  op_kept next room further beyond now later (op.Var var) below = refl
  op_kept next room further beyond now later (op.Bin how kind a b) below = rw (later.kept a below.0, later.kept b below.1) refl
  op_kept next room further beyond now later (op.Un how kind a) below = rw (later.kept a below) refl
  op_kept next room further beyond now later (op.Mulq a b s) below = rw (later.kept a below.0, later.kept b below.1, later.kept s below.2) refl
  op_kept next room further beyond now later (op.Extract div size from) below = rw (later.kept from below) refl
  op_kept next room further beyond now later (op.Offset high size low) below = rw (later.kept high below.0, later.kept low below.1) refl
  op_kept next room further beyond now later (op.Read place layout field) below = rw (later.kept_places place below) refl
  op_kept next room further beyond now later (op.Active place) below = rw (later.kept_places place below) refl
  op_kept next room further beyond now later (op.OwnRead layout field) below = refl

  step_kept : (next : Next) (room : Room) (further : Next) (beyond : Room) → Later next room further beyond → (how : Step) → StepBelow (length next.spans) next.places how
      → step_place seen beyond how ≡ step_place seen room how
  step_kept next room further beyond later (step.Root layout) below = refl
  step_kept next room further beyond later (step.Check place axis extent index) below = rw (later.kept_places place below.0, later.kept index below.1) refl
  step_kept next room further beyond later (step.Down descent place node offset) below = rw (later.kept_places place below.0, later.kept offset below.1) refl

  root_kept : (next : Next) (room : Room) (further : Next) (beyond : Room) → Later next room further beyond → (how : Step) → StepBelow (length next.spans) next.places how
      → step_root beyond how ≡ step_root room how
  root_kept next room further beyond later (step.Root layout) below = refl
  root_kept next room further beyond later (step.Check place axis extent index) below = later.kept_roots place below.0
  root_kept next room further beyond later (step.Down descent place node offset) below = later.kept_roots place below.0

  op_later : (rest : Block) (next : Next) (room : Room) (further : Next) (beyond : Room) (now : RunMoment) → Later next room further beyond → (entry : Op × ℕ)
      → OpHolds seen rest next room now entry → OpHolds seen rest further beyond now entry
  op_later rest next room further beyond now later entry h = let named = h.named in let more = later.regs in record {
    named = omega arith;
    below = op_below entry.0 (length next.spans) (length further.spans) next.places further.places later.regs later.places h.below;
    stays = h.stays;
    word = later.kept entry.1 h.named ∙ (h.word ∙ sym (op_kept next room further beyond now later entry.0 h.below));
    lies = rw (later.spans entry.1 h.named, later.kept entry.1 h.named) h.lies;
  }

  step_later : (next : Next) (room : Room) (further : Next) (beyond : Room) → Later next room further beyond → (entry : Step × ℕ)
      → StepHolds seen next room entry → StepHolds seen further beyond entry
  step_later next room further beyond later entry h = let named = h.named in let more = later.places in record {
    named = omega arith;
    below = step_below entry.0 (length next.spans) (length further.spans) next.places further.places later.regs later.places h.below;
    place = later.kept_places entry.1 h.named ∙ (h.place ∙ sym (step_kept next room further beyond later entry.0 h.below));
    root = later.kept_roots entry.1 h.named ∙ (h.root ∙ sym (root_kept next room further beyond later entry.0 h.below));
  }

  -- more registers and places, of which the room has words alone
  pub holds_later : (given : Given) (rest : Block) (pass : Pass) (next : Next) (room : Room) (further : Next) (beyond : Room) (now : RunMoment) → Later next room further beyond
      → ((r : ℕ) → Lies whole_i32 (beyond.regs r)) → HoldsInRoom seen given rest pass next room now → HoldsInRoom seen given rest pass further beyond now
  holds_later given rest pass next room further beyond now later words h = record {
    ops = each_map (OpHolds seen rest next room now) (OpHolds seen rest further beyond now) (op_later rest next room further beyond now later) pass.ops h.ops;
    steps = each_map (StepHolds seen next room) (StepHolds seen further beyond) (step_later next room further beyond later) pass.steps h.steps;
    words = words;
    fits = h.fits;
  }

  -- what serves from here on serves from later on
  pub serves_later : (given : Given) (rest : Block) (pass : Pass) (next : Next) (room : Room) (known : Pass) (further : Next) (beyond : Room) (now result : RunMoment) (word : ℕ) (go : ℕ → Making)
      → Later next room further beyond → Alike pass next known further → Serves seen given rest pass next room now result word go → Serves seen given rest known further beyond now result word go
  serves_later given rest pass next room known further beyond now result word go later loops serves t known' further' beyond' later' loops' =
      serves t known' further' beyond' (later_on next room further beyond further' beyond' later later') (alike_on pass next known further known' further' loops loops')

  pub serves_place_later : (given : Given) (rest : Block) (pass : Pass) (next : Next) (room : Room) (known : Pass) (further : Next) (beyond : Room) (now result : RunMoment) (root : ℕ) (place : Option Place) (go : ℕ → Making)
      → Later next room further beyond → Alike pass next known further → ServesPlace seen given rest pass next room now result root place go → ServesPlace seen given rest known further beyond now result root place go
  serves_place_later given rest pass next room known further beyond now result root place go later loops serves t known' further' beyond' later' loops' =
      serves t known' further' beyond' (later_on next room further beyond further' beyond' later later') (alike_on pass next known further known' further' loops loops')

  -- the instruction that sets a register
  set_runs : (to : ℕ) (how : Op) (index : List ℕ) (rest : Block) (room : Room) (now : RunMoment) → run seen (set_word to how index rest) room now ≡ run seen rest (room_reg to (op_word seen room now how) room) now
  set_runs to (op.Const word truth) index rest room now = refl
  set_runs to (op.Var var) index rest room now = refl
  set_runs to (op.Bin how kind a b) index rest room now = refl
  set_runs to (op.Un how kind a) index rest room now = refl
  set_runs to (op.Mulq a b s) index rest room now = refl
  set_runs to (op.Extract div size from) index rest room now = refl
  set_runs to (op.Offset high size low) index rest room now = refl
  set_runs to (op.Read place layout field) index rest room now = refl
  set_runs to (op.Active place) index rest room now = refl
  set_runs to (op.OwnRead layout field) index rest room now = refl

  set_names : (to : ℕ) (how : Op) (index : List ℕ) (rest : Block) (room : Room) (now : RunMoment) → OpIsAt seen.shapes room how index
      → NamesAll seen rest (room_reg to (op_word seen room now how) room) now → NamesAll seen (set_word to how index rest) room now
  set_names to (op.Const word truth) index rest room now is more = more
  set_names to (op.Var var) index rest room now is more = more
  set_names to (op.Bin how kind a b) index rest room now is more = more
  set_names to (op.Un how kind a) index rest room now is more = more
  set_names to (op.Mulq a b s) index rest room now is more = more
  set_names to (op.Extract div size from) index rest room now is more = more
  set_names to (op.Offset high size low) index rest room now is more = more
  set_names to (op.Read place layout field) index rest room now is more = (is, more)
  set_names to (op.Active place) index rest room now is more = (is, more)
  set_names to (op.OwnRead layout field) index rest room now is more = more

  module _ (laws : Laws seen) (given : Given) where
    word_lies : (rest : Block) (pass : Pass) (next : Next) (room : Room) (now : RunMoment) → HoldsInRoom seen given rest pass next room now → (how : Op) → HasConstantWord how → OpLies next room how
        → Lies (span_of given pass next how) (op_word seen room now how)
    word_lies rest pass next room now holds (op.Const word truth) has lies = laws.words (vars_of given pass) room now holds.words holds.fits (op.Const word truth) has
    word_lies rest pass next room now holds (op.Var var) has lies = laws.words (vars_of given pass) room now holds.words holds.fits (op.Var var) has
    word_lies rest pass next room now holds (op.Bin how kind a b) has lies = laws.bins how kind (span_in next a) (span_in next b) (room.regs a) (room.regs b) lies.0 lies.1
    word_lies rest pass next room now holds (op.Un how kind a) has lies = laws.words (vars_of given pass) room now holds.words holds.fits (op.Un how kind a) has
    word_lies rest pass next room now holds (op.Mulq a b s) has lies = laws.words (vars_of given pass) room now holds.words holds.fits (op.Mulq a b s) has
    word_lies rest pass next room now holds (op.Extract div size from) has lies = laws.words (vars_of given pass) room now holds.words holds.fits (op.Extract div size from) has
    word_lies rest pass next room now holds (op.Offset high size low) has lies = laws.words (vars_of given pass) room now holds.words holds.fits (op.Offset high size low) has
    word_lies rest pass next room now holds (op.Read place layout field) has lies = laws.words (vars_of given pass) room now holds.words holds.fits (op.Read place layout field) has
    word_lies rest pass next room now holds (op.Active place) has lies = laws.words (vars_of given pass) room now holds.words holds.fits (op.Active place) has
    word_lies rest pass next room now holds (op.OwnRead layout field) has lies = laws.words (vars_of given pass) room now holds.words holds.fits (op.OwnRead layout field) has

    -- after a new register
    reg_later : (type : Ty) (span : Span) (word : ℕ) (next : Next) (room : Room) → Later next room (next_with_reg type span next) (room_reg (length next.spans) word room)
    reg_later type span word next room = let more : length (next.spans ++ span ∷ []) ≡ suc (length next.spans) = length_push next.spans span in record {
      regs = omega arith;
      places = omega arith;
      spans = λ r below. get_kept next.spans span whole_i32 r below;
      kept = λ r below. put_below (length next.spans) word room.regs r below;
      kept_places = λ p below. refl;
      kept_roots = λ p below. refl;
    }

    put_out : (type : Ty) (how : Op) (index : List ℕ) (pass known : Pass) (next : Next) (room : Room) (now result : RunMoment) (go : ℕ → Making) → OpIsAt seen.shapes room how index
        → Good seen (go (length next.spans) known (next_with_reg type (span_of given pass next how) next)) (room_reg (length next.spans) (op_word seen room now how) room) now result
        → Good seen (put_in_front (set_word (length next.spans) how index) (go (length next.spans) known (next_with_reg type (span_of given pass next how) next))) room now result
    put_out type how index pass known next room now result go at good = record {
      runs = set_runs (length next.spans) how index _ room now ∙ good.runs;
      names = set_names (length next.spans) how index _ room now at good.names;
    }

    -- a register that is put out, and isn't known after it
    pub fresh_law : (rest : Block) (type : Ty) (how : Op) (index : List ℕ) (go : ℕ → Making) (pass : Pass) (next : Next) (room : Room) (now result : RunMoment) → HoldsInRoom seen given rest pass next room now
        → HasConstantWord how → OpLies next room how → OpIsAt seen.shapes room how index
        → Serves seen given rest pass next room now result (op_word seen room now how) go → Good seen (fresh given type how index go pass next) room now result
    fresh_law rest type how index go pass next room now result holds has operands at serves =
        let n = length next.spans in
        let word = op_word seen room now how in
        let span = span_of given pass next how in
        let lies : Lies span word = word_lies rest pass next room now holds how has operands in
        let later = reg_later type span word next room in
        let more : length (next.spans ++ span ∷ []) ≡ suc n = length_push next.spans span in
        put_out type how index pass pass next room now result go at
        (serves n pass (next_with_reg type span next) (room_reg n word room) later (record { loops = refl; names = refl })
        (holds_later given rest pass next room (next_with_reg type span next) (room_reg n word room) now later (put_lies n word room.regs holds.words (laws.wide span word lies)) holds)
        (omega arith) (put_here n word room.regs) (rw (get_last next.spans span whole_i32) lies))

    -- a register that holds a pure operation
    looked_up_law : (rest : Block) (type : Ty) (how : Op) (index : List ℕ) (go : ℕ → Making) (pass : Pass) (next : Next) (room : Room) (now result : RunMoment) → HoldsInRoom seen given rest pass next room now
        → HasConstantWord how → OpBelow (length next.spans) next.places how → OpStays rest how → OpLies next room how → OpIsAt seen.shapes room how index
        → Serves seen given rest pass next room now result (op_word seen room now how) go → Good seen (looked_up given type how index go pass next) room now result
    looked_up_law rest type how index go pass next room now result holds has below stays operands at serves = by_found (lookup (same_op how) pass.ops) refl
      where
        by_found : (o : Option ℕ) → lookup (same_op how) pass.ops ≡ o → Good seen (taken_at given type how index go o pass next) room now result
        by_found (Some t) e =
            let found : IsFound same_op how (OpHolds seen rest next room now) t = each_found same_op how (OpHolds seen rest next room now) pass.ops t holds.ops e in
            let is : how ≡ found.other = laws.same_ops how found.other found.alike in
            let word : room.regs t ≡ op_word seen room now how = found.holds.word ∙ ap (op_word seen room now) (sym is) in
            serves t pass next room (later_same next room) (alike_same pass next) holds found.holds.named word (subst (λ w. Lies (span_in next t) w) word found.holds.lies)
        by_found None e =
            let n = length next.spans in
            let word = op_word seen room now how in
            let span = span_of given pass next how in
            let lies : Lies span word = word_lies rest pass next room now holds how has operands in
            let later = reg_later type span word next room in
            let more : length (next.spans ++ span ∷ []) ≡ suc n = length_push next.spans span in
            let mid = holds_later given rest pass next room (next_with_reg type span next) (room_reg n word room) now later (put_lies n word room.regs holds.words (laws.wide span word lies)) holds in
            let here : Lies (get_or (next.spans ++ span ∷ []) n whole_i32) word = rw (get_last next.spans span whole_i32) lies in
            let entry : OpHolds seen rest (next_with_reg type span next) (room_reg n word room) now (how, n) = record {
              named = omega arith;
              below = op_below how n (length (next.spans ++ span ∷ [])) next.places next.places (omega arith) (omega arith) below;
              stays = stays;
              word = put_here n word room.regs ∙ sym (op_kept next room (next_with_reg type span next) (room_reg n word room) now later how below);
              lies = rw (put_here n word room.regs) here;
            } in
            put_out type how index pass (and_op how n pass) next room now result go at
            (serves n (and_op how n pass) (next_with_reg type span next) (room_reg n word room) later (record { loops = refl; names = refl })
            (record { ops = each_push (OpHolds seen rest (next_with_reg type span next) (room_reg n word room) now) pass.ops (how, n) mid.ops entry; steps = mid.steps; words = mid.words; fits = mid.fits })
            (omega arith) (put_here n word room.regs) here)

    -- a register that holds the word of a pure operation, be it an operand or that of a plainer one
    pub taken_law : (rest : Block) (type : Ty) (how : Op) (index : List ℕ) (go : ℕ → Making) (pass : Pass) (next : Next) (room : Room) (now result : RunMoment) → HoldsInRoom seen given rest pass next room now
        → HasConstantWord how → OpBelow (length next.spans) next.places how → OpStays rest how → OpLies next room how → OpIsAt seen.shapes room how index
        → Serves seen given rest pass next room now result (op_word seen room now how) go → Good seen (taken given type how index go pass next) room now result
    taken_law rest type how index go pass next room now result holds has below stays operands at serves = by_operand (operand_again next how) refl
      where
        by_operand : (o : Option ℕ) → operand_again next how ≡ o → Good seen (taken_or given type how index go o pass next) room now result
        by_operand (Some t) e =
            let again = operand_holds seen room now next how t below operands e in
            serves t pass next room (later_same next room) (alike_same pass next) holds again.named again.word (subst (λ w. Lies (span_in next t) w) again.word again.lies)
        by_operand None e =
            looked_up_law rest type (plainest type how) index go pass next room now result holds (plainest_constant type how has) (plainest_below (length next.spans) next.places type how below) (plainest_stays rest type how stays)
            (plainest_lies next room type how operands) (plainest_at seen.shapes room type how index at)
            (subst (λ w. Serves seen given rest pass next room now result w go) (sym (plainest_word seen room now type how)) serves)

    -- a place that a step gives
    place_later : (root : ℕ) (place : Option Place) (next : Next) (room : Room) → Later next room (next_with_place next) (room_place next.places root place room)
    place_later root place next room = record {
      regs = omega arith;
      places = omega arith;
      spans = λ r below. refl;
      kept = λ r below. refl;
      kept_places = λ p below. put_below next.places place room.places p below;
      kept_roots = λ p below. put_below next.places root room.roots p below;
    }

    pub stepped_law : (rest : Block) (how : Step) (go : ℕ → Making) (pass : Pass) (next : Next) (room : Room) (now result : RunMoment) → HoldsInRoom seen given rest pass next room now
        → StepBelow (length next.spans) next.places how
        → ServesPlace seen given rest pass next room now result (step_root room how) (step_place seen room how) go → Good seen (stepped how go pass next) room now result
    stepped_law rest how go pass next room now result holds below serves = by_found (lookup (same_step how) pass.steps) refl
      where
        by_found : (o : Option ℕ) → lookup (same_step how) pass.steps ≡ o → Good seen (stepped_at how go o pass next) room now result
        by_found (Some t) e =
            let found : IsFound same_step how (StepHolds seen next room) t = each_found same_step how (StepHolds seen next room) pass.steps t holds.steps e in
            let is : how ≡ found.other = laws.same_steps how found.other found.alike in
            serves t pass next room (later_same next room) (alike_same pass next) holds found.holds.named (found.holds.place ∙ ap (step_place seen room) (sym is)) (found.holds.root ∙ ap (step_root room) (sym is))
        by_found None e =
            let p = next.places in
            let root = step_root room how in
            let place = step_place seen room how in
            let later = place_later root place next room in
            let mid = holds_later given rest pass next room (next_with_place next) (room_place p root place room) now later holds.words holds in
            let entry : StepHolds seen (next_with_place next) (room_place p root place room) (how, p) = record {
              named = omega arith;
              below = step_below how (length next.spans) (length next.spans) p (suc p) (omega arith) (omega arith) below;
              place = put_here p place room.places ∙ sym (step_kept next room (next_with_place next) (room_place p root place room) later how below);
              root = put_here p root room.roots ∙ sym (root_kept next room (next_with_place next) (room_place p root place room) later how below);
            } in
            let good = serves p (and_step how p pass) (next_with_place next) (room_place p root place room) later (record { loops = refl; names = refl })
            (record { ops = mid.ops; steps = each_push (StepHolds seen (next_with_place next) (room_place p root place room)) pass.steps (how, p) mid.steps entry; words = mid.words; fits = mid.fits })
            (omega arith) (put_here p place room.places) (put_here p root room.roots) in
            record { runs = good.runs; names = good.names }

-- In a block without what isn't kept each access has passed the checks that it needs, where this is so of the block.
use Rattle.std.specs.Prelude.{◌≡◌, refl, ℕ, ℤ, suc, ◌==◌, Bool, true, false, not, ◌&&◌, ◌||◌, if◌then◌else◌, List, [], ◌∷◌, ◌++◌, slice_get, Option, Some, None}
use Rattle.std.specs.List.{list_all}
use Rattle.std.proofs.Common.{sym, ap, ◌∙◌}
use Rattle.std.proofs.lemmas.Bool.{eqb-true, and_parts, and_from}
use Rattle.sg_layout.specs.declared.shape.Shape.{Shape}
use Rattle.sg_layout.specs.Axes.{bounds_of_shape}
use Rattle.sg_ir.specs.declared.op.Op.{Op}
use Rattle.sg_ir.specs.declared.op.Op.TheVariants as op
use Rattle.sg_ir.specs.declared.op.Step.{Step}
use Rattle.sg_ir.specs.declared.op.Step.TheVariants as step
use Rattle.sg_ir.specs.declared.span.Span.{Span}
use Rattle.sg_ir.specs.Places.{extents_in}
use Rattle.sg_ir.specs.Span.{whole_i32, Spans, bin_span, range_span, reg_span, var_span, op_span, with_span, in_loop}
use Rattle.sg_ir.specs.Trimmed.{AxisCheck, Ways, is_within, and_check, are_checks, way_to, way_behind, needed, needed_in, is_trim, Way, way_of, is_trim_in, listed}
use Rattle.sg_ir.specs.Blocks.{Sight, Value, Activity, Block, End, Word, Spot, Cell, Do, Branch, Loop, Act, SetVar, WriteOwn, Contribute, Wish}
use Rattle.sg_ir.specs.InScope.{AreSet, op_regs, step_places}
use Rattle.sg_simplify.specs.Kept.{Keep, behind_where, is_end, kept_part, op_vars, ReadsKept}
use Rattle.sg_simplify.specs.steps.Trims.{sight_is_good, answers}
use Rattle.sg_simplify.proofs.KeptTests.{clash, both_if, past}

past_first : {A : Type 0} (kept : ℕ → Bool) (to k : ℕ) (x y z : A) → kept to ≡ false → kept k ≡ true → z ≡ y → z ≡ (if to == k then x else y)
past_first kept to k x y z off on e = by_test (to == k) refl
  where
    by_test : (test : Bool) → (to == k) ≡ test → z ≡ (if test then x else y)
    by_test true is = clash (kept k) on (ap kept (sym (eqb-true to k is)) ∙ off)
    by_test false is = e

bin_same : (how kind : _) (x y v w : Span) → x ≡ v → y ≡ w → bin_span how kind x y ≡ bin_span how kind v w
bin_same how kind x y v w e f = ap (λ s. bin_span how kind s y) e ∙ ap (λ s. bin_span how kind v s) f

check_same : (extent axis r : ℕ) (x y : Span) (m n : List (ℕ × ℕ)) → x ≡ y → m ≡ n → and_check (is_within extent x) axis r m ≡ and_check (is_within extent y) axis r n
check_same extent axis r x y m n e f = ap (λ s. and_check (is_within extent s) axis r m) e ∙ ap (λ k. and_check (is_within extent y) axis r k) f

are_same : (c d : List (ℕ × ℕ)) (w v : List AxisCheck) → c ≡ d → w ≡ v → are_checks c w ≡ are_checks d v
are_same c d w v e f = ap (λ k. are_checks k w) e ∙ ap (λ k. are_checks d k) f

module _ (good : ℕ → Bool) (keep : Keep) (shapes : List Shape) where
  -- the same is known, so far as it is kept
  pub record Agree (spans narrow : Spans) (ways few : Ways) : Type 0 where
    pub regs : (r : ℕ) → keep.regs r ≡ true → reg_span narrow r ≡ reg_span spans r
    pub vars : (v : ℕ) → keep.vars v ≡ true → var_span narrow v ≡ var_span spans v
    pub places : (p : ℕ) → keep.places p ≡ true → way_of few p ≡ way_of ways p

  op_spans : (how : Op) (spans narrow : Spans) (ways few : Ways) → AreSet keep.regs (op_regs how) → AreSet keep.vars (op_vars how) → Agree spans narrow ways few → op_span narrow how ≡ op_span spans how
  op_spans (op.Const word truth) spans narrow ways few regs vars agree = refl
  op_spans (op.Var var) spans narrow ways few regs vars agree = agree.vars var vars.0
  op_spans (op.Bin how kind a b) spans narrow ways few regs vars agree = bin_same how kind (reg_span narrow a) (reg_span narrow b) (reg_span spans a) (reg_span spans b) (agree.regs a regs.0) (agree.regs b regs.1.0)
  op_spans (op.Un how kind a) spans narrow ways few regs vars agree = refl
  op_spans (op.Mulq a b s) spans narrow ways few regs vars agree = refl
  op_spans (op.Extract div size from) spans narrow ways few regs vars agree = refl
  op_spans (op.Offset high size low) spans narrow ways few regs vars agree = refl
  op_spans (op.Read place layout field) spans narrow ways few regs vars agree = refl
  op_spans (op.Active place) spans narrow ways few regs vars agree = refl
  op_spans (op.OwnRead layout field) spans narrow ways few regs vars agree = refl

  reg_both : (to : ℕ) (s t : Span) (spans narrow : Spans) (ways few : Ways) → t ≡ s → Agree spans narrow ways few → Agree (with_span to s spans) (with_span to t narrow) ways few
  reg_both to s t spans narrow ways few e agree = record { regs = λ r is. both_if (r == to) t s (reg_span narrow r) (reg_span spans r) e (agree.regs r is); vars = agree.vars; places = agree.places }

  reg_past : (to : ℕ) (s : Span) (spans narrow : Spans) (ways few : Ways) → keep.regs to ≡ false → Agree spans narrow ways few → Agree (with_span to s spans) narrow ways few
  reg_past to s spans narrow ways few off agree = record { regs = λ r is. past keep.regs to r s (reg_span spans r) (reg_span narrow r) off is (agree.regs r is); vars = agree.vars; places = agree.places }

  ways_behind : (to : ℕ) (how : Step) (spans narrow : Spans) (ways few : Ways) → AreSet keep.places (step_places how) → Agree spans narrow ways few → way_behind few to how ≡ way_behind ways to how
  ways_behind to (step.Root layout) spans narrow ways few places agree = refl
  ways_behind to (step.Check place axis extent index) spans narrow ways few places agree = ap (λ (w : Way). record { root = w.root; checks = w.checks ++ record { axis = axis; index = index; place = to } ∷ [] }) (agree.places place places.0)
  ways_behind to (step.Down descent place node offset) spans narrow ways few places agree = agree.places place places.0

  place_both : (to : ℕ) (w v : Way) (spans narrow : Spans) (ways few : Ways) → v ≡ w → Agree spans narrow ways few → Agree spans narrow ((to, w) ∷ ways) ((to, v) ∷ few)
  place_both to w v spans narrow ways few e agree = record { regs = agree.regs; vars = agree.vars; places = λ p is. both_if (to == p) v w (way_of few p) (way_of ways p) e (agree.places p is) }

  place_past : (to : ℕ) (w : Way) (spans narrow : Spans) (ways few : Ways) → keep.places to ≡ false → Agree spans narrow ways few → Agree spans narrow ((to, w) ∷ ways) few
  place_past to w spans narrow ways few off agree = record { regs = agree.regs; vars = agree.vars; places = λ p is. past_first keep.places to p w (way_of ways p) (way_of few p) off is (agree.places p is) }

  loop_both : (var : ℕ) (lo hi : ℤ) (spans narrow : Spans) (ways few : Ways) → Agree spans narrow ways few → Agree (in_loop var lo hi spans) (in_loop var lo hi narrow) ways few
  loop_both var lo hi spans narrow ways few agree = record {
    regs = agree.regs;
    vars = λ v is. both_if (v == var) (range_span lo hi) (range_span lo hi) (var_span narrow v) (var_span spans v) refl (agree.vars v is);
    places = agree.places;
  }

  needed_same : (spans narrow : Spans) (ways few : Ways) → Agree spans narrow ways few → (axis : ℕ) (extents index : List ℕ) → AreSet keep.regs index → needed narrow axis extents index ≡ needed spans axis extents index
  needed_same spans narrow ways few agree axis [] index set = refl
  needed_same spans narrow ways few agree axis (extent ∷ extents) [] set = refl
  needed_same spans narrow ways few agree axis (extent ∷ extents) (r ∷ index) set =
      check_same extent axis r (reg_span narrow r) (reg_span spans r) (needed narrow (suc axis) extents index) (needed spans (suc axis) extents index) (agree.regs r set.0) (needed_same spans narrow ways few agree (suc axis) extents index set.1)

  needed_in_same : (spans narrow : Spans) (ways few : Ways) → Agree spans narrow ways few → (shape : Option Shape) (index : List ℕ) → AreSet keep.regs index → needed_in narrow shape index ≡ needed_in spans shape index
  needed_in_same spans narrow ways few agree None index set = refl
  needed_in_same spans narrow ways few agree (Some shape) index set = needed_same spans narrow ways few agree 0 (extents_in (bounds_of_shape shape)) index set

  trim_same : (spans narrow : Spans) (ways few : Ways) → Agree spans narrow ways few → (layout place : ℕ) (index : List ℕ) → AreSet keep.regs index → keep.places place ≡ true
      → is_trim shapes narrow few layout place index ≡ is_trim shapes spans ways layout place index
  trim_same spans narrow ways few agree layout place index set on =
      are_same (needed_in narrow (slice_get shapes layout) index) (needed_in spans (slice_get shapes layout) index) (way_to few place) (way_to ways place)
      (needed_in_same spans narrow ways few agree (slice_get shapes layout) index set) (ap (λ (w : Way). w.checks) (agree.places place on))

  -- of what is seen at a place
  sight_trim : (spans narrow : Spans) (ways few : Ways) → Agree spans narrow ways few → (place : ℕ) (sight : Sight) (index : List ℕ) → AreSet keep.regs index → keep.places place ≡ true
      → sight_is_good good shapes narrow few place sight index ≡ sight_is_good good shapes spans ways place sight index
  sight_trim spans narrow ways few agree place (Value layout field) index set on = trim_same spans narrow ways few agree layout place index set on
  sight_trim spans narrow ways few agree place Activity index set on =
      ap (λ (found : Option ℕ). is_trim_in shapes narrow few found place index && list_all good (listed found)) (ap (λ (w : Way). w.root) (agree.places place on)) ∙ by_root (way_of ways place).root
    where
      by_root : (found : Option ℕ) → (is_trim_in shapes narrow few found place index && list_all good (listed found)) ≡ (is_trim_in shapes spans ways found place index && list_all good (listed found))
      by_root None = refl
      by_root (Some layout) = ap (λ b. b && list_all good (layout ∷ [])) (trim_same spans narrow ways few agree layout place index set on)

  abbrev StaysTrim : Block → Type 0
  StaysTrim block = (spans narrow : Spans) (ways few : Ways) → Agree spans narrow ways few → ReadsKept keep (kept_part keep block) → answers good shapes spans ways block ≡ true → answers good shapes narrow few (kept_part keep block) ≡ true

  word_trim : (to : ℕ) (how : Op) (rest : Block) → StaysTrim rest → StaysTrim (Word to how rest)
  word_trim to how rest more spans narrow ways few agree reads e = by_test (keep.regs to) refl reads
    where
      by_test : (test : Bool) → keep.regs to ≡ test → ReadsKept keep (behind_where test (Word to how) (kept_part keep rest)) → answers good shapes narrow few (behind_where test (Word to how) (kept_part keep rest)) ≡ true
      by_test true is read = more (with_span to (op_span spans how) spans) (with_span to (op_span narrow how) narrow) ways few
          (reg_both to (op_span spans how) (op_span narrow how) spans narrow ways few (op_spans how spans narrow ways few read.0 read.2 agree) agree) read.3 e
      by_test false is read = more (with_span to (op_span spans how) spans) narrow ways few (reg_past to (op_span spans how) spans narrow ways few is agree) read e

  spot_trim : (to : ℕ) (how : Step) (rest : Block) → StaysTrim rest → StaysTrim (Spot to how rest)
  spot_trim to how rest more spans narrow ways few agree reads e = by_test (keep.places to) refl reads
    where
      by_test : (test : Bool) → keep.places to ≡ test → ReadsKept keep (behind_where test (Spot to how) (kept_part keep rest)) → answers good shapes narrow few (behind_where test (Spot to how) (kept_part keep rest)) ≡ true
      by_test true is read = more spans narrow ((to, way_behind ways to how) ∷ ways) ((to, way_behind few to how) ∷ few)
          (place_both to (way_behind ways to how) (way_behind few to how) spans narrow ways few (ways_behind to how spans narrow ways few read.1 agree) agree) read.2 e
      by_test false is read = more spans narrow ((to, way_behind ways to how) ∷ ways) few (place_past to (way_behind ways to how) spans narrow ways few is agree) read e

  cell_trim : (to place : ℕ) (sight : Sight) (index : List ℕ) (rest : Block) → StaysTrim rest → StaysTrim (Cell to place sight index rest)
  cell_trim to place sight index rest more spans narrow ways few agree reads e =
      by_test (keep.regs to) refl reads (and_parts (sight_is_good good shapes spans ways place sight index) (answers good shapes (with_span to whole_i32 spans) ways rest) e)
    where
      by_test : (test : Bool) → keep.regs to ≡ test → ReadsKept keep (behind_where test (Cell to place sight index) (kept_part keep rest))
          → (sight_is_good good shapes spans ways place sight index ≡ true) × (answers good shapes (with_span to whole_i32 spans) ways rest ≡ true)
          → answers good shapes narrow few (behind_where test (Cell to place sight index) (kept_part keep rest)) ≡ true
      by_test true is read parts = and_from (sight_is_good good shapes narrow few place sight index) (answers good shapes (with_span to whole_i32 narrow) few (kept_part keep rest))
          (sight_trim spans narrow ways few agree place sight index read.0 read.1 ∙ parts.0)
          (more (with_span to whole_i32 spans) (with_span to whole_i32 narrow) ways few (reg_both to whole_i32 whole_i32 spans narrow ways few refl agree) read.2 parts.1)
      by_test false is read parts = more (with_span to whole_i32 spans) narrow ways few (reg_past to whole_i32 spans narrow ways few is agree) read parts.1

  do_trim : (what : Act) (rest : Block) → StaysTrim rest → StaysTrim (Do what rest)
  do_trim (SetVar var from) rest more spans narrow ways few agree reads e = by_test (keep.vars var) reads
    where
      by_test : (test : Bool) → ReadsKept keep (behind_where test (Do (SetVar var from)) (kept_part keep rest)) → answers good shapes narrow few (behind_where test (Do (SetVar var from)) (kept_part keep rest)) ≡ true
      by_test true read = more spans narrow ways few agree read.2 e
      by_test false read = more spans narrow ways few agree read e
  do_trim (WriteOwn layout field from stmt) rest more spans narrow ways few agree reads e = more spans narrow ways few agree reads.2 e
  do_trim (Contribute how layout field place from index stmt) rest more spans narrow ways few agree reads e =
      let parts = and_parts (is_trim shapes spans ways layout place index) (answers good shapes spans ways rest) e in
      and_from (is_trim shapes narrow few layout place index) (answers good shapes narrow few (kept_part keep rest))
      (trim_same spans narrow ways few agree layout place index reads.0.1 reads.1.0 ∙ parts.0) (more spans narrow ways few agree reads.2 parts.1)
  do_trim (Wish layout index stmt) rest more spans narrow ways few agree reads e = more spans narrow ways few agree reads.2 e

  branch_trim : (cond : ℕ) (block otherwise rest : Block) → StaysTrim block → StaysTrim otherwise → StaysTrim rest → StaysTrim (Branch cond block otherwise rest)
  branch_trim cond block otherwise rest one two more spans narrow ways few agree reads e =
      let first = and_parts (answers good shapes spans ways block) (answers good shapes spans ways otherwise && answers good shapes spans ways rest) e in
      let second = and_parts (answers good shapes spans ways otherwise) (answers good shapes spans ways rest) first.1 in
      by_test (is_end (kept_part keep block) && is_end (kept_part keep otherwise)) reads first.0 second.0 second.1
    where
      by_test : (none : Bool) → ReadsKept keep (behind_where (not none) (Branch cond (kept_part keep block) (kept_part keep otherwise)) (kept_part keep rest))
          → answers good shapes spans ways block ≡ true → answers good shapes spans ways otherwise ≡ true → answers good shapes spans ways rest ≡ true
          → answers good shapes narrow few (behind_where (not none) (Branch cond (kept_part keep block) (kept_part keep otherwise)) (kept_part keep rest)) ≡ true
      by_test true read a b c = more spans narrow ways few agree read c
      by_test false read a b c = and_from (answers good shapes narrow few (kept_part keep block)) (answers good shapes narrow few (kept_part keep otherwise) && answers good shapes narrow few (kept_part keep rest))
          (one spans narrow ways few agree read.1 a)
          (and_from (answers good shapes narrow few (kept_part keep otherwise)) (answers good shapes narrow few (kept_part keep rest)) (two spans narrow ways few agree read.2 b) (more spans narrow ways few agree read.3 c))

  loop_trim : (var : ℕ) (lo hi : ℤ) (body rest : Block) → StaysTrim body → StaysTrim rest → StaysTrim (Loop var lo hi body rest)
  loop_trim var lo hi body rest turn more spans narrow ways few agree reads e =
      by_test (keep.vars var || not (is_end (kept_part keep body))) reads (and_parts (answers good shapes (in_loop var lo hi spans) ways body) (answers good shapes spans ways rest) e)
    where
      by_test : (test : Bool) → ReadsKept keep (behind_where test (Loop var lo hi (kept_part keep body)) (kept_part keep rest))
          → (answers good shapes (in_loop var lo hi spans) ways body ≡ true) × (answers good shapes spans ways rest ≡ true)
          → answers good shapes narrow few (behind_where test (Loop var lo hi (kept_part keep body)) (kept_part keep rest)) ≡ true
      by_test true read parts = and_from (answers good shapes (in_loop var lo hi narrow) few (kept_part keep body)) (answers good shapes narrow few (kept_part keep rest))
          (turn (in_loop var lo hi spans) (in_loop var lo hi narrow) ways few (loop_both var lo hi spans narrow ways few agree) read.1 parts.0) (more spans narrow ways few agree read.2 parts.1)
      by_test false read parts = more spans narrow ways few agree read parts.1

  pub kept_trim : (block : Block) → StaysTrim block
  kept_trim End = λ spans narrow ways few agree reads e. refl
  kept_trim (Word to how rest) = word_trim to how rest (kept_trim rest)
  kept_trim (Spot to how rest) = spot_trim to how rest (kept_trim rest)
  kept_trim (Cell to place sight index rest) = cell_trim to place sight index rest (kept_trim rest)
  kept_trim (Do what rest) = do_trim what rest (kept_trim rest)
  kept_trim (Branch cond block otherwise rest) = branch_trim cond block otherwise rest (kept_trim block) (kept_trim otherwise) (kept_trim rest)
  kept_trim (Loop var lo hi body rest) = loop_trim var lo hi body rest (kept_trim body) (kept_trim rest)

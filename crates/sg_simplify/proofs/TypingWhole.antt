-- Code that stands for what the pass puts out is well typed where the given code is.
use Rattle.std.specs.Prelude.{◌≡◌, refl, ℕ, ◌+◌, ◌≤◌, ◌==◌, nat_lt, Bool, true, false, not, ◌&&◌, ◌||◌, cond, count_by, List, [], ◌∷◌, None}
use Rattle.std.specs.List.{list_any}
use Rattle.std.proofs.Common.{arith, sym, ap, subst, ◌∙◌}
use Rattle.std.proofs.Math.Path.{fun_ext}
use Rattle.std.proofs.lemmas.Bool.{and_parts}
use Rattle.std.proofs.lemmas.List.Sums.{sum_by-cons}
use Rattle.sg_words.specs.declared.operators.Ty.{Ty}
use Rattle.sg_layout.specs.declared.shape.Shape.{Shape}
use Rattle.sg_flat.specs.declared.effects.Domain.{Domain}
use Rattle.sg_ir.specs.declared.code.Code.{Code}
use Rattle.sg_ir.specs.Blocks.{Block, block_in}
use Rattle.sg_ir.specs.Span.{sets}
use Rattle.sg_ir.specs.WellTyped.{Frame, Scope, frame_of, first_scope, judged, set_regs, set_places, setters_in, has_no_twice, most_loop_vars, is_well_typed}
use Rattle.sg_ir.specs.InScope.{nothing, IsScoped}
use Rattle.sg_simplify.specs.steps.Pass.{Given, Next, given_of, first_pass, first_next, simplified}
use Rattle.sg_simplify.specs.steps.Counted.{regs_set, places_set}
use Rattle.sg_simplify.specs.steps.Judged.{fits_scope}
use Rattle.sg_simplify.specs.steps.Typed.{Fixed, frame_by, Typed, AreWalked}
use Rattle.sg_simplify.specs.steps.Ruled.{HasRoots}
use Rattle.sg_simplify.proofs.SettingVars.{simplified_count}
use Rattle.sg_simplify.proofs.Tallying.{code_regs, code_places, code_vars}
use Rattle.sg_simplify.proofs.Judging.{code_fits}
use Rattle.sg_simplify.proofs.TypingSteps.{both, starts_same}
use Rattle.sg_simplify.proofs.TypingBlocks.{simplified_typed}
use Rattle.sg_simplify.proofs.Numbering.{set_once}

none_set : {A : Type 0} → false ≡ true → A
none_set h = absurd (cc)

-- ---- numbers that are counted once at most stand once at most
count_first : (n x : ℕ) (xs : List ℕ) → count_by (λ y. y == n) (x ∷ xs) ≡ cond (x == n) 1 0 + count_by (λ y. y == n) xs
count_first n x xs = sum_by-cons (λ (y : ℕ). cond (y == n) 1 0) x xs

gone : (n : ℕ) (xs : List ℕ) → count_by (λ y. y == n) xs ≡ 0 → list_any (λ y. y == n) xs ≡ false
gone n [] h = refl
gone n (x ∷ xs) h = by_test (x == n) (sym (count_first n x xs) ∙ h) (gone n xs)
  where
    by_test : (test : Bool) → cond test 1 0 + count_by (λ y. y == n) xs ≡ 0 → (count_by (λ y. y == n) xs ≡ 0 → list_any (λ y. y == n) xs ≡ false) → (test || list_any (λ y. y == n) xs) ≡ false
    by_test true e more = absurd (omega (arith, e))
    by_test false e more = more (omega (arith, e))

same_test : (n : ℕ) → (n == n) ≡ true
same_test n = grind arith

pub not_twice : (xs : List ℕ) → ((n : ℕ) → count_by (λ y. y == n) xs ≤ 1) → has_no_twice xs ≡ true
not_twice [] few = refl
not_twice (x ∷ xs) few =
    both _ _ (ap not (gone x xs none)) (not_twice xs (λ n. fewer n (x == n) (count_first n x xs) (few n)))
  where
    none : count_by (λ y. y == x) xs ≡ 0
    none = by_test (x == x) (same_test x) (count_first x x xs) (few x)
      where
        by_test : (test : Bool) → test ≡ true → count_by (λ y. y == x) (x ∷ xs) ≡ cond test 1 0 + count_by (λ y. y == x) xs → count_by (λ y. y == x) (x ∷ xs) ≤ 1 → count_by (λ y. y == x) xs ≡ 0
        by_test true is e h = let sum : count_by (λ y. y == x) (x ∷ xs) ≡ 1 + count_by (λ y. y == x) xs = e in omega (arith, h)
        by_test false is e h = none_set is

    fewer : (n : ℕ) (test : Bool) → count_by (λ y. y == n) (x ∷ xs) ≡ cond test 1 0 + count_by (λ y. y == n) xs → count_by (λ y. y == n) (x ∷ xs) ≤ 1 → count_by (λ y. y == n) xs ≤ 1
    fewer n true e h = let sum : count_by (λ y. y == n) (x ∷ xs) ≡ 1 + count_by (λ y. y == n) xs = e in omega (arith, h)
    fewer n false e h = let sum : count_by (λ y. y == n) (x ∷ xs) ≡ 0 + count_by (λ y. y == n) xs = e in omega (arith, h)

-- a frame and a first scope, by how often variables are set
abbrev framed : List Shape → List Ty → ℕ → List Ty → (ℕ → ℕ) → Frame
framed shapes regs places vars setters = record { shapes = shapes; regs = regs; places = places; vars = vars; setters = setters }

abbrev scoped_by : (ℕ → ℕ) → Scope
scoped_by setters = record { regs = λ r. false; places = λ p. None; vars = λ v. nat_lt v most_loop_vars && (setters v == 0) }

same_frame : (shapes : List Shape) (regs other : List Ty) (places room : ℕ) (vars more : List Ty) (setters counts : ℕ → ℕ) → regs ≡ other → places ≡ room → vars ≡ more → setters ≡ counts
    → framed shapes regs places vars setters ≡ framed shapes other room more counts
same_frame shapes regs other places room vars more setters counts a b c d =
    ap (λ (x : List Ty). framed shapes x places vars setters) a
    ∙ (ap (λ (x : ℕ). framed shapes other x vars setters) b
    ∙ (ap (λ (x : List Ty). framed shapes other room x setters) c
    ∙ ap (λ (x : ℕ → ℕ). framed shapes other room more x) d))

pub simple_well_typed : (shapes : List Shape) (domain : Domain) (code made : Code) → AreWalked shapes → is_well_typed shapes code ≡ true → IsScoped nothing (block_in code) → HasRoots (given_of shapes domain code.regs (block_in code)).roots (block_in code)
    → (out : Block × Next) → simplified (given_of shapes domain code.regs (block_in code)) (block_in code) first_pass first_next ≡ out
    → block_in made ≡ out.0 → made.regs ≡ out.1.types → made.places ≡ out.1.places → made.vars ≡ code.vars → is_well_typed shapes made ≡ true
simple_well_typed shapes domain code made walked good scoped are out is same_block same_regs same_places same_vars =
    let block = block_in code in
    let given : Given = given_of shapes domain code.regs block in
    let result = simplified given block first_pass first_next in
    let parts = and_parts (judged (frame_of shapes code) code.body (first_scope code.body)).0 (has_no_twice (set_regs code.body) && has_no_twice (set_places code.body)) good in
    let setters = setters_in code.body in
    let fixed : Fixed = record { shapes = shapes; vars = code.vars; setters = setters } in
    let start = first_scope code.body in
    let typed : Typed fixed start first_next result = simplified_typed given code.vars setters code.places walked block nothing start start first_pass first_next scoped (λ r e. none_set e)
    (code_fits (frame_of shapes code) code.body start ∙ parts.0) are (λ p known e. absurd (cc)) (λ v e. e) (λ r e. none_set e)
    (record { even = refl; ops = tt; steps = tt; free_regs = λ r above. refl; free_places = λ p above. refl }) in
    let whole : block_in made ≡ result.0 = same_block ∙ ap (λ (o : Block × Next). o.0) (sym is) in
    let counts : setters_in made.body ≡ setters = fun_ext (λ v. sym (code_vars made.regs made.body v) ∙ (ap (sets v) whole ∙ (simplified_count given v block first_pass first_next ∙ code_vars code.regs code.body v))) in
    let frame : frame_of shapes made ≡ frame_by fixed result.1 = same_frame shapes made.regs result.1.types made.places result.1.places made.vars code.vars (setters_in made.body) setters
    (same_regs ∙ ap (λ (o : Block × Next). o.1.types) (sym is)) (same_places ∙ ap (λ (o : Block × Next). o.1.places) (sym is)) same_vars counts in
    let judged_good : (judged (frame_of shapes made) made.body (first_scope made.body)).0 ≡ true =
    sym (code_fits (frame_of shapes made) made.body (first_scope made.body))
    ∙ (ap (λ (at : Frame). fits_scope at (first_scope made.body) (block_in made)) frame
    ∙ (ap (λ (s : ℕ → ℕ). fits_scope (frame_by fixed result.1) (scoped_by s) (block_in made)) counts
    ∙ (ap (fits_scope (frame_by fixed result.1) start) whole
    ∙ typed.good result.1 (starts_same result.1)))) in
    both _ _ judged_good
    (both _ _
    (not_twice (set_regs made.body) (λ n. subst (λ k. k ≤ 1) (ap (regs_set n) (sym whole) ∙ code_regs made.regs made.body n) (set_once given block first_pass first_next n).0))
    (not_twice (set_places made.body) (λ n. subst (λ k. k ≤ 1) (ap (places_set n) (sym whole) ∙ code_places made.regs made.body n) (set_once given block first_pass first_next n).1)))

-- Where each place is set once, the layouts that are known of places after a whole block are those from whose roots they come.
use Rattle.std.specs.Prelude.{◌≡◌, refl, ℕ, ◌≤◌, ◌==◌, Bool, true, false, if◌then◌else◌, List, [], Option, Some, nat_eq, unwrap_or}
use Rattle.std.specs.Map.{lookup}
use Rattle.std.proofs.Common.{arith, sym, ap, ◌∙◌}
use Rattle.std.proofs.lemmas.Bool.{eqb-true, eq-eqb}
use Rattle.indexmap.specs.IndexMap.{insert_entry}
use Rattle.sg_ir.specs.declared.op.Step.{Step}
use Rattle.sg_ir.specs.declared.op.Step.TheVariants as step
use Rattle.sg_ir.specs.Blocks.{Block, End, Word, Spot, Cell, Do, Branch, Loop}
use Rattle.sg_ir.specs.InScope.{InScope, and_reg, and_place, step_places, AreSet, IsScoped}
use Rattle.sg_simplify.specs.steps.Pass.{root_known, root_by, roots_in}
use Rattle.sg_simplify.specs.steps.Ruled.{HasRoots}
use Rattle.sg_simplify.specs.steps.Counted.{one_where, places_set}
use Rattle.sg_simplify.proofs.Tables.{names_put}

-- what is known of a place that is noted, and of the others
root_put : (roots : List (ℕ × ℕ)) (to layout p : ℕ) → root_known (insert_entry nat_eq roots to layout) p ≡ (if p == to then layout else root_known roots p)
root_put roots to layout p = ap (λ (found : Option ℕ). unwrap_or found 0) (names_put roots to layout p) ∙ by_test (p == to)
  where
    by_test : (test : Bool) → unwrap_or (if test then Some layout else lookup (nat_eq p) roots) 0 ≡ (if test then layout else root_known roots p)
    by_test true = refl
    by_test false = refl

other_root : (roots : List (ℕ × ℕ)) (to layout p : ℕ) → one_where (to == p) ≡ 0 → root_known (insert_entry nat_eq roots to layout) p ≡ root_known roots p
other_root roots to layout p none = root_put roots to layout p ∙ by_test (p == to) refl
  where
    by_test : (test : Bool) → (p == to) ≡ test → (if test then layout else root_known roots p) ≡ root_known roots p
    by_test true e = let one : one_where (to == p) ≡ 1 = ap one_where (eq-eqb to p (sym (eqb-true p to e))) in absurd (omega (arith, one, none))
    by_test false e = refl

roots_stay : (p : ℕ) (block : Block) (roots : List (ℕ × ℕ)) → places_set p block ≡ 0 → root_known (roots_in roots block) p ≡ root_known roots p
roots_stay p End roots none = refl
roots_stay p (Word to how rest) roots none = roots_stay p rest roots none
roots_stay p (Spot to how rest) roots none =
    roots_stay p rest (insert_entry nat_eq roots to (root_by roots how)) (omega (arith, none)) ∙ other_root roots to (root_by roots how) p (omega (arith, none))
roots_stay p (Cell to place sight index rest) roots none = roots_stay p rest roots none
roots_stay p (Do what rest) roots none = roots_stay p rest roots none
roots_stay p (Branch cond block otherwise rest) roots none =
    roots_stay p rest (roots_in (roots_in roots block) otherwise) (omega (arith, none)) ∙ (roots_stay p otherwise (roots_in roots block) (omega (arith, none)) ∙ roots_stay p block roots (omega (arith, none)))
roots_stay p (Loop var lo hi body rest) roots none = roots_stay p rest (roots_in roots body) (omega (arith, none)) ∙ roots_stay p body roots (omega (arith, none))

module _ (whole : List (ℕ × ℕ)) where
  -- where the layouts that are known so far are known at the end for what is in scope, and those of what the block sets come from it
  abbrev Found : Block → Type 0
  Found block = (scope : InScope) (roots : List (ℕ × ℕ)) → IsScoped scope block → ((p : ℕ) → scope.places p ≡ true → root_known whole p ≡ root_known roots p) → ((p : ℕ) → scope.places p ≡ true → places_set p block ≡ 0)
      → ((p : ℕ) → places_set p block ≤ 1) → ((p : ℕ) → 1 ≤ places_set p block → root_known whole p ≡ root_known (roots_in roots block) p) → HasRoots whole block

  same_by : (how : Step) (scope : InScope) (roots : List (ℕ × ℕ)) → AreSet scope.places (step_places how) → ((p : ℕ) → scope.places p ≡ true → root_known whole p ≡ root_known roots p) → root_by whole how ≡ root_by roots how
  same_by (step.Root layout) scope roots set same = refl
  same_by (step.Check place axis extent index) scope roots set same = same place set.0
  same_by (step.Down descent place node offset) scope roots set same = same place set.0

  spot_found : (to : ℕ) (how : Step) (rest : Block) → Found rest → Found (Spot to how rest)
  spot_found to how rest more scope roots scoped same unset once final = (
    at ∙ sym (same_by how scope roots scoped.1 same),
    more (and_place to scope) (insert_entry nat_eq roots to (root_by roots how)) scoped.3
        (λ p on. first p on) (λ p on. rest_unset p (p == to) refl on) (λ p. rest_once p) (λ p some. final p (rest_some p some)),
  )
    where
      one : one_where (to == to) ≡ 1
      one = ap one_where (eq-eqb to to refl)

      gone : places_set to rest ≡ 0
      gone = let here = one in let all = once to in omega (arith, here, all)

      at : root_known whole to ≡ root_by roots how
      at =
          final to (let here = one in omega (arith, here))
          ∙ (roots_stay to rest (insert_entry nat_eq roots to (root_by roots how)) gone
          ∙ (root_put roots to (root_by roots how) to ∙ ap (λ (test : Bool). if test then root_by roots how else root_known roots to) (eq-eqb to to refl)))

      first : (p : ℕ) → (and_place to scope).places p ≡ true → root_known whole p ≡ root_known (insert_entry nat_eq roots to (root_by roots how)) p
      first p on = by_test (p == to) refl on ∙ sym (root_put roots to (root_by roots how) p)
        where
          by_test : (test : Bool) → (p == to) ≡ test → (if test then true else scope.places p) ≡ true → root_known whole p ≡ (if p == to then root_by roots how else root_known roots p)
          by_test true e h = ap (root_known whole) (eqb-true p to e) ∙ (at ∙ ap (λ (test : Bool). if test then root_by roots how else root_known roots p) (sym e))
          by_test false e h = same p h ∙ ap (λ (test : Bool). if test then root_by roots how else root_known roots p) (sym e)

      rest_unset : (p : ℕ) (test : Bool) → (p == to) ≡ test → (if test then true else scope.places p) ≡ true → places_set p rest ≡ 0
      rest_unset p true e on = let here = ap one_where (eq-eqb to p (sym (eqb-true p to e))) in let all = once p in omega (arith, here, all)
      rest_unset p false e on = let all = unset p on in omega (arith, all)

      rest_once : (p : ℕ) → places_set p rest ≤ 1
      rest_once p = let all = once p in omega (arith, all)

      rest_some : (p : ℕ) → 1 ≤ places_set p rest → 1 ≤ places_set p (Spot to how rest)
      rest_some p some = omega (arith, some)

  branch_found : (cond : ℕ) (block otherwise rest : Block) → Found block → Found otherwise → Found rest → Found (Branch cond block otherwise rest)
  branch_found cond block otherwise rest one two more scope roots scoped same unset once final = (
    one scope roots scoped.1 same (λ p on. let all = unset p on in omega (arith, all)) (λ p. let all = once p in omega (arith, all)) (λ p some. in_first p some),
    two scope (roots_in roots block) scoped.2 (λ p on. same p on ∙ sym (roots_stay p block roots (let all = unset p on in omega (arith, all)))) (λ p on. let all = unset p on in omega (arith, all))
        (λ p. let all = once p in omega (arith, all)) (λ p some. in_second p some),
    more scope (roots_in (roots_in roots block) otherwise) scoped.3
        (λ p on. same p on ∙ (sym (roots_stay p block roots (let all = unset p on in omega (arith, all))) ∙ sym (roots_stay p otherwise (roots_in roots block) (let all = unset p on in omega (arith, all)))))
        (λ p on. let all = unset p on in omega (arith, all)) (λ p. let all = once p in omega (arith, all)) (λ p some. final p (omega (arith, some))),
  )
    where
      in_first : (p : ℕ) → 1 ≤ places_set p block → root_known whole p ≡ root_known (roots_in roots block) p
      in_first p some =
          let all = once p in
          final p (omega (arith, some)) ∙ (roots_stay p rest (roots_in (roots_in roots block) otherwise) (omega (arith, all, some)) ∙ roots_stay p otherwise (roots_in roots block) (omega (arith, all, some)))

      in_second : (p : ℕ) → 1 ≤ places_set p otherwise → root_known whole p ≡ root_known (roots_in (roots_in roots block) otherwise) p
      in_second p some = let all = once p in final p (omega (arith, some)) ∙ roots_stay p rest (roots_in (roots_in roots block) otherwise) (omega (arith, all, some))

  loop_found : (var : ℕ) (lo hi : _) (body rest : Block) → Found body → Found rest → Found (Loop var lo hi body rest)
  loop_found var lo hi body rest turn more scope roots scoped same unset once final = (
    turn scope roots scoped.0 same (λ p on. let all = unset p on in omega (arith, all)) (λ p. let all = once p in omega (arith, all)) (λ p some. in_body p some),
    more scope (roots_in roots body) scoped.1 (λ p on. same p on ∙ sym (roots_stay p body roots (let all = unset p on in omega (arith, all))))
        (λ p on. let all = unset p on in omega (arith, all)) (λ p. let all = once p in omega (arith, all)) (λ p some. final p (omega (arith, some))),
  )
    where
      in_body : (p : ℕ) → 1 ≤ places_set p body → root_known whole p ≡ root_known (roots_in roots body) p
      in_body p some = let all = once p in final p (omega (arith, some)) ∙ roots_stay p rest (roots_in roots body) (omega (arith, all, some))

  pub has_roots : (block : Block) → Found block
  has_roots End = λ scope roots scoped same unset once final. tt
  has_roots (Word to how rest) = λ scope roots scoped same unset once final. has_roots rest (and_reg to scope) roots scoped.3 same unset once final
  has_roots (Spot to how rest) = spot_found to how rest (has_roots rest)
  has_roots (Cell to place sight index rest) = λ scope roots scoped same unset once final. has_roots rest (and_reg to scope) roots scoped.2 same unset once final
  has_roots (Do what rest) = λ scope roots scoped same unset once final. has_roots rest scope roots scoped.2 same unset once final
  has_roots (Branch cond block otherwise rest) = branch_found cond block otherwise rest (has_roots block) (has_roots otherwise) (has_roots rest)
  has_roots (Loop var lo hi body rest) = loop_found var lo hi body rest (has_roots body) (has_roots rest)

-- The variables among the marked places are the least set that has those which lines give a word from what isn't clean.
use Rattle.std.proofs.Common.{◌≡◌, ℕ, zero, suc, ◌+◌, ◌-◌, ◌<◌, Bool, false, not, if◌then◌else◌, nat_lt, List, [], ◌∷◌, length, get_or, refl, sym, ap, subst, ◌∙◌, arith}
use Rattle.std.specs.List.{list_all}
use Rattle.std.proofs.Math.Path.{fun_ext}
use Rattle.std.proofs.lemmas.Bool.{lt-ltb, le-ltb}
use Rattle.sg_types.specs.declared.typed.TypedExpr.{TypedExpr}
use Rattle.sg_admit.specs.declared.text.Text.{Text}
use Rattle.sg_admit.specs.declared.hangs.Hangs.{Hangs}
use Rattle.sg_admit.specs.Lines.{Around, Line, nothing_round}
use Rattle.sg_admit.specs.Clean.{is_clean, givings}
use Rattle.sg_admit.specs.steps.Noting.{tests_in}
use Rattle.sg_words.specs.Spread.{bears_mark, IsLeastSpread}
use Rattle.sg_admit.specs.steps.Hanging.{Vars, unclean_beside, is_noted_in, vars_in, has_givings, AreSettled, IsSpread, AddsLinks, IsLeastGiven}

-- the set of places that goes with a set of variables: each `if` that isn't clean beside them or stands in one that isn't, and they
module _ (text : Text) (tests : List (List TypedExpr)) (counted : text.ifs ≡ 1 + length tests) (vars : Vars) where
  abbrev is_unclean : List TypedExpr → Bool
  is_unclean conditions = not (list_all (is_clean (unclean_beside (is_noted_in text.writes) vars)) conditions)

  abbrev if_at : ℕ → Bool
  if_at zero = false
  if_at (suc place) = is_unclean (get_or tests place [])

  abbrev place_with : ℕ → Bool
  place_with place = if nat_lt place text.ifs then if_at place else vars (place - text.ifs)

  var_at : (var : ℕ) → place_with (text.ifs + var) ≡ vars var
  var_at var =
      ap (λ (b : Bool). if b then if_at (text.ifs + var) else vars (text.ifs + var - text.ifs)) (le-ltb (text.ifs + var) text.ifs (omega arith))
      ∙ ap vars (omega arith)

  same_vars : vars_in text place_with ≡ vars
  same_vars = fun_ext var_at

  if_is : (place : ℕ) → place < length tests → place_with (suc place) ≡ is_unclean (get_or tests place [])
  if_is place h = ap (λ (b : Bool). if b then if_at (suc place) else vars (suc place - text.ifs)) (lt-ltb (suc place) text.ifs (omega (arith, h, counted)))

  root_is : place_with 0 ≡ false
  root_is = ap (λ (b : Bool). if b then false else vars (0 - text.ifs)) (lt-ltb 0 text.ifs (omega (arith, counted)))

  settled_from : (at : ℕ) (some : List (List TypedExpr)) → ((place : ℕ) → place < length some → place_with (at + place) ≡ is_unclean (get_or some place [])) → AreSettled text place_with at some
  settled_from at [] h = tt
  settled_from at (conditions ∷ some) h = (
    ap place_with (let e : at ≡ at + 0 = omega arith in e) ∙ (h 0 (omega arith) ∙ ap (λ (v : Vars). not (list_all (is_clean (unclean_beside (is_noted_in text.writes) v)) conditions)) (sym same_vars)),
    settled_from (at + 1) some (λ place l. ap place_with (let e : at + 1 + place ≡ at + suc place = omega arith in e) ∙ h (suc place) (omega (arith, l))),
  )

  settled : AreSettled text place_with 1 tests
  settled = settled_from 1 tests (λ place l. ap place_with (let e : 1 + place ≡ suc place = omega arith in e) ∙ if_is place l)

pub least_given : (text : Text) (lines : Around → List Line) (before after : Hangs) (marks dirty : List Bool) → AddsLinks text 0 lines before after
    → before ≡ record { links = record { links = []; start = [] }; ifs = 1 } → text.ifs ≡ 1 + length (tests_in (lines nothing_round))
    → IsLeastSpread after.links.links after.links.start marks → ((var : ℕ) → bears_mark dirty var ≡ bears_mark marks (text.ifs + var)) → IsLeastGiven text.writes (lines nothing_round) dirty
least_given text lines before after marks dirty linked begun counted least same = record {
  given = ap (has_givings (is_noted_in text.writes) (givings (lines nothing_round))) (fun_ext same) ∙ linked.sound (bears_mark marks) nothing_round (λ e. refl) least.spread;
  least = λ vars h var m.
      let places = place_with text (tests_in (lines nothing_round)) counted vars in
      let are = same_vars text (tests_in (lines nothing_round)) counted vars in
      let spread = linked.complete places nothing_round (root_is text (tests_in (lines nothing_round)) counted vars)
      (subst (λ (it : Hangs). AreSettled text places it.ifs (tests_in (lines nothing_round))) (sym begun) (settled text (tests_in (lines nothing_round)) counted vars))
      (subst (λ (it : Hangs). IsSpread it.links places) (sym begun) refl)
      (ap (has_givings (is_noted_in text.writes) (givings (lines nothing_round))) are ∙ h) in
      sym (var_at text (tests_in (lines nothing_round)) counted vars var) ∙ least.least places spread (text.ifs + var) (sym (same var) ∙ m);
}

-- What has spread along the links of a kernel is what is dirty in it.
use Rattle.std.proofs.Common.{◌≡◌, ℕ, Bool, true, false, not, ◌&&◌, ◌||◌, ◌==◌, List, [], ◌∷◌, ◌++◌, refl, sym, ap, ◌∙◌}
use Rattle.std.specs.List.{list_any}
use Rattle.std.proofs.Math.Path.{fun_ext}
use Rattle.std.proofs.lemmas.Bool.{and_parts, and_from, both_ways, false_from_ne_true}
use Rattle.sg_admit.specs.declared.ways.FieldWay.{FieldWay}
use Rattle.sg_admit.specs.Lines.{Deed, Sets, Writes, Tests, Turns, Opens, Line}
use Rattle.sg_types.specs.Values.{is_own}
use Rattle.sg_admit.specs.Rules.{is_of_field, has_own, has_acc, deed_ways, ways_in}
use Rattle.sg_admit.specs.Admission.{turns_var}
use Rattle.sg_admit.specs.steps.Noting.{AreAlike, deed_loops, loops_in}
use Rattle.sg_admit.specs.Clean.{Unclean, Giving, givings, is_clean_giving, unclean_with, dirty_among, deed_writes, writes_field, unclean_in}
use Rattle.sg_admit.specs.Laws.{IsClosed}
use Rattle.sg_words.specs.Spread.{bears_mark}
use Rattle.sg_admit.specs.steps.Hanging.{Vars, unclean_beside, is_noted_in, has_givings, IsLeastGiven}
use Rattle.sg_admit.proofs.Dirty.{dirty_is_closed, dirty_is_least}

module _ (fields : ℕ → ℕ → Bool) (vars : Vars) where
  one_closed : (clean it : Bool) → (clean || it) ≡ true → clean ≡ false → it ≡ true
  one_closed true it h e = absurd (both_ways true e refl)
  one_closed false it h e = h

  closed_one : (clean it : Bool) → (clean ≡ false → it ≡ true) → (clean || it) ≡ true
  closed_one true it h = refl
  closed_one false it h = h refl

  pub closed_from : (all : List Giving) → has_givings fields all vars ≡ true → IsClosed fields all vars
  closed_from [] h = tt
  closed_from (giving ∷ all) h =
      let p = and_parts (is_clean_giving (unclean_beside fields vars) giving || vars giving.var) (has_givings fields all vars) h in
      (one_closed (is_clean_giving (unclean_beside fields vars) giving) (vars giving.var) p.0, closed_from all p.1)

  pub closed_into : (all : List Giving) → IsClosed fields all vars → has_givings fields all vars ≡ true
  closed_into [] h = refl
  closed_into (giving ∷ all) h =
      and_from (is_clean_giving (unclean_beside fields vars) giving || vars giving.var) (has_givings fields all vars)
      (closed_one (is_clean_giving (unclean_beside fields vars) giving) (vars giving.var) h.0) (closed_into all h.1)

same_tests : (a b : Bool) → (a ≡ true → b ≡ true) → (b ≡ true → a ≡ true) → a ≡ b
same_tests true b h g = sym (h refl)
same_tests false b h g = sym (false_from_ne_true b (λ e. both_ways false refl (g e)))

-- what isn't clean in a kernel is told by a table of its written fields and by the marks
pub unclean_is : (lines : List Line) (ways : List FieldWay) (marks : List Bool) → ((layout place : ℕ) → is_noted_in ways layout place ≡ writes_field lines layout place) → IsLeastGiven ways lines marks
    → ◌≡◌ {A = Unclean} (record { fields = is_noted_in ways; vars = bears_mark marks }) (unclean_in lines)
unclean_is lines ways marks fields least =
    let dirty = (unclean_with (writes_field lines) (dirty_among (writes_field lines) (givings lines))).vars in
    let same_fields : is_noted_in ways ≡ writes_field lines = fun_ext (λ layout. fun_ext (λ place. fields layout place)) in
    let like : (vars : Vars) → has_givings (is_noted_in ways) (givings lines) vars ≡ has_givings (writes_field lines) (givings lines) vars =
    λ vars. ap (λ (f : ℕ → ℕ → Bool). has_givings f (givings lines) vars) same_fields in
    let same : bears_mark marks ≡ dirty = fun_ext (λ var. same_tests (bears_mark marks var) (dirty var)
    (least.least dirty (like dirty ∙ closed_into (writes_field lines) dirty (givings lines) (dirty_is_closed (writes_field lines) (givings lines))) var)
    (dirty_is_least (writes_field lines) (givings lines) (bears_mark marks) (closed_from (writes_field lines) (bears_mark marks) (givings lines) (sym (like (bears_mark marks)) ∙ least.given)) var)) in
    ap (λ (f : ℕ → ℕ → Bool). record { fields = f; vars = bears_mark marks }) same_fields ∙ ap (λ (v : ℕ → Bool). record { fields = writes_field lines; vars = v }) same

-- a field is written where one of its ways is noted
at_deed : (layout place : ℕ) (lines : List Line) → is_noted_in (ways_in lines) layout place ≡ writes_field lines layout place → (deed : Deed)
    → list_any (is_of_field layout place) (deed_ways deed ++ ways_in lines) ≡ (deed_writes layout place deed || writes_field lines layout place)
at_deed layout place lines h (Sets var value) = h
at_deed layout place lines h (Writes at_layout at_place index way value) = ap (λ (b : Bool). ((at_layout == layout) && (at_place == place)) || b) h
at_deed layout place lines h (Tests condition) = h
at_deed layout place lines h (Turns var range) = h
at_deed layout place lines h (Opens ranges) = h

pub written_is : (lines : List Line) (layout place : ℕ) → is_noted_in (ways_in lines) layout place ≡ writes_field lines layout place
written_is [] layout place = refl
written_is (line ∷ lines) layout place = at_deed layout place lines (written_is lines layout place) line.deed

-- a field is written if it is own-written or accumulated
by_kinds : (ways : List FieldWay) (layout place : ℕ) → is_noted_in ways layout place ≡ (has_own ways layout place || has_acc ways layout place)
by_kinds [] layout place = refl
by_kinds (it ∷ ways) layout place =
    ap (λ (b : Bool). is_of_field layout place it || b) (by_kinds ways layout place) ∙ parted (is_of_field layout place it) (is_own it.way) (has_own ways layout place) (has_acc ways layout place)
  where
    parted : (here own more_own more_acc : Bool) → (here || (more_own || more_acc)) ≡ (((here && own) || more_own) || ((here && not own) || more_acc))
    parted true true o a = refl
    parted true false true a = refl
    parted true false false a = refl
    parted false own o a = refl

-- and so lists that tell the same note the same fields
pub noted_alike : (xs ys : List FieldWay) → AreAlike xs ys → (layout place : ℕ) → is_noted_in xs layout place ≡ is_noted_in ys layout place
noted_alike xs ys alike layout place =
    by_kinds xs layout place
    ∙ (ap (λ (b : Bool). b || has_acc xs layout place) (alike.own layout place)
    ∙ (ap (λ (b : Bool). has_own ys layout place || b) (alike.acc layout place) ∙ sym (by_kinds ys layout place)))

at_turns : (var : ℕ) (lines : List Line) → list_any (λ it. it == var) (loops_in lines) ≡ list_any (λ line. turns_var var line.deed) lines → (deed : Deed)
    → list_any (λ it. it == var) (deed_loops deed ++ loops_in lines) ≡ (turns_var var deed || list_any (λ line. turns_var var line.deed) lines)
at_turns var lines h (Sets other value) = h
at_turns var lines h (Writes layout place index way value) = h
at_turns var lines h (Tests condition) = h
at_turns var lines h (Turns other range) = ap (λ (b : Bool). (other == var) || b) h
at_turns var lines h (Opens ranges) = h

-- a variable is a loop's if it is noted as one
pub turns_is : (lines : List Line) (var : ℕ) → list_any (λ it. it == var) (loops_in lines) ≡ list_any (λ line. turns_var var line.deed) lines
turns_is [] var = refl
turns_is (line ∷ lines) var = at_turns var lines (turns_is lines var) line.deed

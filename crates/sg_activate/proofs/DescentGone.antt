-- The loops over the levels: the numbers of all, and the words of all.
use Rattle.std.proofs.Common.{◌≡◌, ℕ, zero, suc, ◌+◌, ◌-◌, ◌<◌, inl, inr, List, [], ◌∷◌, ◌++◌, length, refl, sym, subst, arith}
use Rattle.std.specs.Prelude.{Result, Ok, Err, OnOk, slice_index_or}
use Rattle.std.proofs.lemmas.Bool.{cases_lt}
use Rattle.std.proofs.lemmas.List.{length-append, get_or_push}
use Rattle.sg_words.specs.Answers.{Answers}
use Rattle.sg_words.specs.declared.memory.Stop.{Stop}
use Rattle.sg_words.specs.declared.memory.Stop.TheVariants as stop
use Rattle.sg_activate.specs.declared.fault.ActFault.{ActFault}
use Rattle.sg_activate.specs.declared.descent.rule.Start.{Start}
use Rattle.sg_activate.specs.declared.descent.level.Level.{Level}
use Rattle.sg_activate.specs.steps.Levels.{IfActRefused}
use Rattle.sg_activate.specs.steps.DescentEnds.{FitsNode, AllFit, IsTaken, AreTaken, IsOverFull, IsFirstOverFull}

pub refused_then : (A B : Type 0) (s : Stop ActFault) (P Q : ActFault → Type 0) → ((fault : ActFault) → P fault → Q fault) → IfActRefused {A = A} (Err s) P → IfActRefused {A = B} (Err s) Q
refused_then A B stop.Memory P Q follows says = tt
refused_then A B (stop.Refused fault) P Q follows says = follows fault says

front_same : (xs : List (List ℕ)) (y : List ℕ) (i : ℕ) → i < length xs → slice_index_or (xs ++ y ∷ []) i [] ≡ slice_index_or xs i []
front_same [] y i below = absurd (omega arith)
front_same (x ∷ xs) y zero below = refl
front_same (x ∷ xs) y (suc i) below = front_same xs y i (omega arith)

pub refused_also : (A : Type 0) (r : Result A (Stop ActFault)) (P Q : ActFault → Type 0) → ((fault : ActFault) → P fault → Q fault) → IfActRefused r P → IfActRefused r Q
refused_also A (Ok x) P Q follows says = tt
refused_also A (Err stop.Memory) P Q follows says = tt
refused_also A (Err (stop.Refused fault)) P Q follows says = follows fault says

pub ok_also : (A : Type 0) (r : Result A (Stop ActFault)) (P Q : Type 0) → (P → Q) → OnOk r P → OnOk r Q
ok_also A (Ok x) P Q follows says = follows says
ok_also A (Err s) P Q follows says = tt

pub answers_of : (A : Type 0) (s : Stop ActFault) (meaning : Result Unit ActFault) → IfActRefused {A = A} (Err s) (λ fault. meaning ≡ Err fault) → Answers {A = Unit} (Err s) meaning
answers_of A stop.Memory meaning says = tt
answers_of A (stop.Refused fault) meaning says = says

module _ (start : Start) (base : ℕ) (levels : List Level) (links : List ℕ) where
  pub taken_more : (taken : List (List ℕ)) (k : ℕ) (numbers : List ℕ) → length taken ≡ k → AreTaken start base levels links taken → IsTaken start base levels links k numbers → AreTaken start base levels links (taken ++ numbers ∷ [])
  taken_more taken k numbers many are is i below =
      let long = length-append taken (numbers ∷ []) in
      elim (cases_lt i (length taken)) [
        | inl before ↦ subst (IsTaken start base levels links i) (sym (front_same taken numbers i before)) (are i before)
        | inr past ↦
            let same : k ≡ i = omega arith in
            let last : slice_index_or (taken ++ numbers ∷ []) i [] ≡ numbers = get_or_push taken numbers [] i (omega arith) in
            subst (IsTaken start base levels links i) (sym last) (subst (λ j. IsTaken start base levels links j numbers) same is)
      ]

  pub taken_fit : (taken : List (List ℕ)) (k : ℕ) → length taken ≡ k → AreTaken start base levels links taken → AllFit start base links k
  taken_fit taken k many are number past upto =
      let i = number - suc base in
      let here : suc (base + i) ≡ number = omega arith in
      subst (FitsNode start links) here ((are i (omega arith)).fit)

  pub first_over : (taken : List (List ℕ)) (k : ℕ) (fault : ActFault) → length taken ≡ k → AreTaken start base levels links taken → IsOverFull start base levels links k fault → IsFirstOverFull start base levels links fault
  first_over taken k fault many are over = record { k = k; before = taken_fit taken k many are; over = over }

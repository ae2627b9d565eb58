-- A fault of admission is the first.
use Rattle.std.proofs.Common.{◌≡◌, ℕ, suc, ◌+◌, ◌≤◌, Bool, true, false, if◌then◌else◌, nat_lt, List, [], ◌∷◌, ◌++◌, length, Option, Some, None, Ok, Err, refl, ap, subst, arith}
use Rattle.std.specs.List.{list_all, AllByRecursion}
use Rattle.std.specs.Option.{option_or}
use Rattle.std.proofs.lemmas.Bool.{ltb-true, ltb-false}
use Rattle.sg_words.specs.Results.{fault_or}
use Rattle.sg_types.specs.declared.typed.TypedKernel.{TypedKernel}
use Rattle.sg_admit.specs.declared.admitted.Admitted.{Admitted}
use Rattle.sg_admit.specs.declared.admitted.AdmitFault.{AdmitFault}
use Rattle.sg_admit.specs.declared.admitted.AdmitFault.TheVariants.{Rule, BoxTooLarge}
use Rattle.sg_admit.specs.Limits.{most_box_points}
use Rattle.sg_admit.specs.Lines.{Line, kernel_lines}
use Rattle.sg_admit.specs.Bounds.{constant_domain, box_size}
use Rattle.sg_admit.specs.Rules.{Facts, facts_of, kept_by}
use Rattle.sg_admit.specs.Admission.{first_broken, line_fault, first_fault, kept_of, box_answer, admission}
use Rattle.sg_admit.specs.Laws.{KeepsAll, IsSmallestBroken, IsFirstBroken, Says, FaultsAreFirst}

-- the smallest broken rule of a list that is numbered from the one after the given one
record IsBrokenAfter (before : ℕ) (kept : List Bool) (rule : ℕ) : Type 0 where
  front : List Bool
  back : List Bool
  split : kept ≡ front ++ false ∷ back
  keep : list_all (λ kept. kept) front ≡ true
  number : rule ≡ before + length front + 1

-- what the first broken rule says of a list of rules
abbrev SaysBroken : ℕ → ℕ → List Bool → Option AdmitFault → Type 0
SaysBroken stmt before kept None = list_all (λ kept. kept) kept ≡ true
SaysBroken stmt before kept (Some BoxTooLarge) = ⊥
SaysBroken stmt before kept (Some (Rule at rule)) = (at ≡ stmt) × IsBrokenAfter before kept rule

says_broken : (stmt before : ℕ) (kept : List Bool) → SaysBroken stmt before kept (first_broken stmt (suc before) kept)
says_broken stmt before [] = refl
says_broken stmt before (false ∷ kept) = (refl, record { front = []; back = kept; split = refl; keep = refl; number = omega arith })
says_broken stmt before (true ∷ kept) = later (first_broken stmt (suc (suc before)) kept) (says_broken stmt (suc before) kept)
  where
    later : (found : Option AdmitFault) → SaysBroken stmt (suc before) kept found → SaysBroken stmt before (true ∷ kept) found
    later None h = h
    later (Some BoxTooLarge) h = h
    later (Some (Rule at rule)) h = (
      h.0,
      record {
        front = true ∷ h.1.front;
        back = h.1.back;
        split = ap (λ (more : List Bool). true ∷ more) h.1.split;
        keep = h.1.keep;
        number = let e = h.1.number in omega (arith, e);
      },
    )

module _ (facts : Facts) where
  -- what the fault of a line, and of a list of lines, says
  abbrev SaysOfLine : Line → Option AdmitFault → Type 0
  SaysOfLine line None = KeepsAll facts line
  SaysOfLine line (Some BoxTooLarge) = ⊥
  SaysOfLine line (Some (Rule stmt rule)) = (stmt ≡ line.number) × IsSmallestBroken (kept_by facts line) rule

  says_of_line : (line : Line) → SaysOfLine line (line_fault facts line)
  says_of_line line = from (line_fault facts line) (says_broken line.number 0 (kept_by facts line))
    where
      from : (found : Option AdmitFault) → SaysBroken line.number 0 (kept_by facts line) found → SaysOfLine line found
      from None h = h
      from (Some BoxTooLarge) h = h
      from (Some (Rule stmt rule)) h = (
        h.0,
        record { front = h.1.front; back = h.1.back; split = h.1.split; keep = h.1.keep; number = let e = h.1.number in omega (arith, e) },
      )

  abbrev pub SaysOfLines : List Line → Option AdmitFault → Type 0
  SaysOfLines lines None = AllByRecursion (KeepsAll facts) lines
  SaysOfLines lines (Some BoxTooLarge) = ⊥
  SaysOfLines lines (Some (Rule stmt rule)) = IsFirstBroken facts lines stmt rule

  pub says_of_lines : (lines : List Line) → SaysOfLines lines (first_fault facts lines)
  says_of_lines [] = tt
  says_of_lines (line ∷ lines) = at_line (line_fault facts line) (says_of_line line) (first_fault facts lines) (says_of_lines lines)
    where
      at_line : (here : Option AdmitFault) → SaysOfLine line here → (more : Option AdmitFault) → SaysOfLines lines more → SaysOfLines (line ∷ lines) (option_or here more)
      at_line (Some BoxTooLarge) h more m = h
      at_line (Some (Rule stmt rule)) h more m = record { front = []; line = line; back = lines; split = refl; keep = tt; number = h.0; broken = h.1 }
      at_line None h None m = (h, m)
      at_line None h (Some BoxTooLarge) m = m
      at_line None h (Some (Rule stmt rule)) m = record {
        front = line ∷ m.front;
        line = m.line;
        back = m.back;
        split = ap (λ (more : List Line). line ∷ more) m.split;
        keep = (h, m.keep);
        number = m.number;
        broken = m.broken;
      }

pub faults_are_first : FaultsAreFirst
faults_are_first kernel = from (first_fault (facts_of kernel) (kernel_lines kernel)) (says_of_lines (facts_of kernel) (kernel_lines kernel))
  where
    from_box : AllByRecursion (KeepsAll (facts_of kernel)) (kernel_lines kernel) → (large : Bool) → nat_lt most_box_points (box_size (constant_domain kernel)) ≡ large
        → Says kernel (if large then Err BoxTooLarge else Ok (kept_of kernel))
    from_box h true e = (h, ltb-true most_box_points (box_size (constant_domain kernel)) e)
    from_box h false e = (refl, (h, ltb-false most_box_points (box_size (constant_domain kernel)) e))

    from : (found : Option AdmitFault) → SaysOfLines (facts_of kernel) (kernel_lines kernel) found → Says kernel (fault_or found (box_answer kernel))
    from None h = from_box h (nat_lt most_box_points (box_size (constant_domain kernel))) refl
    from (Some BoxTooLarge) h = absurd h
    from (Some (Rule stmt rule)) h = h

-- what is known of an admitted kernel
pub record IsAdmitted (kernel : TypedKernel) (kept : Admitted) : Type 0 where
  pub is : kept ≡ kept_of kernel
  pub keep : AllByRecursion (KeepsAll (facts_of kernel)) (kernel_lines kernel)
  pub few : box_size (constant_domain kernel) ≤ most_box_points

pub admitted_is : (kernel : TypedKernel) (kept : Admitted) → admission kernel ≡ Ok kept → IsAdmitted kernel kept
admitted_is kernel kept h =
    let s = subst (Says kernel) h (faults_are_first kernel) in
    record { is = s.0; keep = s.1.0; few = s.1.1 }

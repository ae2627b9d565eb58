-- Worked bounds: how deep inner loops nest, how many turns they make, and how many points a box has.
use Rattle.std.proofs.Common.{◌≡◌, ℕ, true, false, List, [], ◌∷◌, Ok, Err, ap}
use Rattle.std.specs.Prelude.{if◌then◌else◌, nat_lt}
use Rattle.sg_types.specs.declared.typed.TypedRange.{TypedRange}
use Rattle.sg_types.specs.declared.typed.TypedDomain.{TypedDomain}
use Rattle.sg_types.specs.declared.typed.TypedDomain.TheVariants as domain
use Rattle.sg_admit.specs.declared.admitted.AdmitFault.TheVariants.{BoxTooLarge}
use Rattle.sg_admit.specs.Limits.{most_box_points}
use Rattle.sg_admit.specs.Lines.{Around, Turns}
use Rattle.sg_admit.specs.Bounds.{nowhere, turns_of, constant_domain, box_size}
use Rattle.sg_admit.specs.Rules.{is_bounded}
use Rattle.sg_admit.specs.Admission.{kept_of, box_answer}
use Rattle.sg_types.proofs.Uses.{expr_folds, value-Literal}
use Rattle.sg_admit.proofs.WorkedAdmission.{literal, range, kernel}

-- ---- inner loops: four in one another, of 4096 turns in all; a condition round them doesn't count
abbrev within : List TypedRange → Around
within ranges = record { conditions = literal 1 ∷ []; ranges = ranges }

four_loops : is_bounded (within (range 0 8 ∷ range 0 8 ∷ range 2 10 ∷ [])) (Turns 4 (range 0 8)) ≡ true
four_loops = simp (expr_folds, value-Literal nowhere)

five_loops : is_bounded (within (range 0 1 ∷ range 0 1 ∷ range 0 1 ∷ range 0 1 ∷ [])) (Turns 5 (range 0 1)) ≡ false
five_loops = simp expr_folds

empty_loop : turns_of (range 5 2) ≡ 0
empty_loop = simp (value-Literal nowhere)

-- ---- boxes of 2^20 points, and of one more
wide : TypedDomain
wide = domain.Ranges (range 0 1024 ∷ range 5 1029 ∷ [])

wider : TypedDomain
wider = domain.Ranges (range 0 1048577 ∷ [])

answered : (over : TypedDomain) (size : ℕ) → box_size (constant_domain (kernel over [])) ≡ size
    → box_answer (kernel over []) ≡ (if nat_lt most_box_points size then Err BoxTooLarge else Ok (kept_of (kernel over [])))
answered over size is = ap (λ (n : ℕ). if nat_lt most_box_points n then Err BoxTooLarge else Ok (kept_of (kernel over []))) is

at_the_limit : box_answer (kernel wide []) ≡ Ok (kept_of (kernel wide []))
unfolding wide
at_the_limit = answered wide 1048576 (simp (value-Literal nowhere))

above_the_limit : box_answer (kernel wider []) ≡ Err BoxTooLarge
unfolding wider
above_the_limit = answered wider 1048577 (simp (value-Literal nowhere))

-- The slice's wants stand for the code's writes that may activate.
use Rattle.std.proofs.Common.{◌≡◌, ℕ, Bool, true, false, not, ◌&&◌, ◌⊎◌, inl, inr, List, [], ◌∷◌, map, Some, None, refl, ap, ◌∙◌}
use Rattle.std.specs.Prelude.{slice_get, cond}
use Rattle.std.specs.List.{filter, AllZip}
use Rattle.sg_layout.specs.declared.shape.Shape.{Shape}
use Rattle.sg_flat.specs.declared.effects.Way.{Way}
use Rattle.sg_flat.specs.declared.effects.Way.TheVariants.{Own, Acc}
use Rattle.sg_flat.specs.declared.effects.Write.{Write}
use Rattle.sg_flat.specs.Kernel.{is_inside_of}
use Rattle.sg_types.specs.declared.typed.TypedDomain.{TypedDomain}
use Rattle.sg_types.specs.declared.typed.TypedDomain.TheVariants as domain
use Rattle.sg_types.specs.Values.{is_own}
use Rattle.sg_types.specs.Iterations.{domain_of}
use Rattle.sg_admit.specs.Slices as admit
use Rattle.sg_admit.specs.Slices.{walked_by, is_walked}
use Rattle.sg_admit.specs.Bounds.{nowhere}
use Rattle.sg_ir.specs.Runs as ir
use Rattle.sg_ir.specs.Runs.{CodeWrite, CodeWant}
use Rattle.sg_ir.specs.Apt as apt
use Rattle.sg_ir.specs.Apt.{IsWantOf, walks}
use Rattle.sg_lower.specs.Lowered.{code_at, code_write, want_of}

own_same : (way : Way) → ir.is_own way ≡ is_own way
own_same Own = refl
own_same (Acc op) = refl

walks_same : (d : TypedDomain) (layout : ℕ) → walks (domain_of nowhere d) layout ≡ is_walked (walked_by d) layout
walks_same (domain.Walk walked) layout = refl
walks_same (domain.Ranges ranges) layout = refl

-- a write may activate exactly when the code's may
activate_same : (shapes : List Shape) (d : TypedDomain) (write : Write) → apt.may_activate (domain_of nowhere d) (code_write shapes write) ≡ admit.may_activate (walked_by d) write.layout write.way
activate_same shapes d write =
    ap (λ (b : Bool). not (b && walks (domain_of nowhere d) write.layout)) (own_same write.way) ∙ ap (λ (b : Bool). not (is_own write.way && b)) (walks_same d write.layout)

want_is : (shapes : List Shape) (write : Write) → IsWantOf shapes (want_of write) (code_write shapes write)
want_is shapes write = record { layout = refl; stmt = refl; at = by_tests (is_own write.way) (is_inside_of (slice_get shapes write.layout) write.at) refl }
  where
    by_tests : (own inside : Bool) → is_inside_of (slice_get shapes write.layout) write.at ≡ inside
        → (code_at own inside write.at ≡ Some write.at) ⊎ ((is_inside_of (slice_get shapes write.layout) write.at ≡ false) × (code_at own inside write.at ≡ None))
    by_tests true inside e = inl refl
    by_tests false true e = inl refl
    by_tests false false e = inr (e, refl)

-- one for one
pub wants_stand : (shapes : List Shape) (d : TypedDomain) (writes : List Write)
    → AllZip (IsWantOf shapes) (map want_of (filter (λ write. admit.may_activate (walked_by d) write.layout write.way) writes)) (filter (apt.may_activate (domain_of nowhere d)) (map (code_write shapes) writes))
wants_stand shapes d [] = tt
wants_stand shapes d (write ∷ writes) =
    by_test (admit.may_activate (walked_by d) write.layout write.way) (apt.may_activate (domain_of nowhere d) (code_write shapes write)) (activate_same shapes d write)
    (filter (λ write. admit.may_activate (walked_by d) write.layout write.way) writes) (filter (apt.may_activate (domain_of nowhere d)) (map (code_write shapes) writes)) (wants_stand shapes d writes)
  where
    by_test : (b c : Bool) → c ≡ b → (ws : List Write) (cs : List CodeWrite) → AllZip (IsWantOf shapes) (map want_of ws) cs → AllZip (IsWantOf shapes) (map want_of (cond b (write ∷ ws) ws)) (cond c (code_write shapes write ∷ cs) cs)
    by_test true true e ws cs rest = (want_is shapes write, rest)
    by_test true false e ws cs rest = absurd (cc)
    by_test false true e ws cs rest = absurd (cc)
    by_test false false e ws cs rest = rest

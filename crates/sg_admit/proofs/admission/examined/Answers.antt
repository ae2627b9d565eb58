use Rattle.std.proofs.Common.{ℕ, List, ◌||◌, ◌==◌, not, map, length, nat_le, sym, ap, ◌∙◌}
use Rattle.std.specs.List.{list_any, range_with_len}
use Rattle.sg_words.specs.declared.operators.Ty.{Ty}
use Rattle.sg_flat.specs.declared.effects.Domain.{Domain}
use Rattle.sg_types.specs.declared.typed.TypedStmt.{TypedStmt}
use Rattle.sg_admit.specs.Limits.{most_box_points}
use Rattle.sg_admit.specs.Slices.{block_slice}
use Rattle.sg_admit.specs.Bounds.{box_size}
use Rattle.sg_words.specs.Spread.{bears_mark}
use Rattle.sg_admit.specs.steps.Marked.{unclean_of}
use Rattle.sg_admit.proofs.Admitting.{refused_rule, refused_box, accepted}
use Rattle.sg_admit.proofs.admission.examined.Goals as goal

pub returns-in-Some : goal.returns-in-Some
returns-in-Some c = refused_rule c.args.kernel c.in_ok-known.known.marks c.in_ok-known.ensures.0 c.in-Some.fault c.in-Some.ensures

pub returns-then-not-is_small : goal.returns-then-not-is_small
returns-then-not-is_small c =
    refused_box c.args.kernel c.in_ok-known.known.marks c.in_ok-known.ensures.0 c.in_default.ensures (box_size c.constant_domain-domain.result) (ap box_size c.constant_domain-domain.ensures)
    (sym c.is_small.ensures ∙ c.if-not-is_small.true)

pub returns : goal.returns
returns c =
    let known = c.in_ok-known.known in
    let marks = known.marks in
    accepted c.args.kernel marks c.in_ok-known.ensures.0 c.in_default.ensures
    (ap (λ (domain : Domain). nat_le (box_size domain) most_box_points) (sym c.constant_domain-domain.ensures) ∙ (sym c.is_small.ensures ∙ c.if-not-is_small.false))
    known.loops c.in_ok-known.ensures.1
    c.in_ok-clean.clean
    (c.in_ok-clean.ensures
    ∙ ap (λ (types : List Ty). map (λ (var : ℕ). not (bears_mark marks.dirty var) || list_any (λ (it : ℕ). it == var) known.loops) (range_with_len 0 (length types))) c.as_slice-2.ensures)
    c.in_ok-slice.slice (c.in_ok-slice.ensures ∙ ap (λ (body : List TypedStmt). block_slice marks.walked (unclean_of marks) body) c.as_slice.ensures)
    c.constant_domain-domain.result c.constant_domain-domain.ensures

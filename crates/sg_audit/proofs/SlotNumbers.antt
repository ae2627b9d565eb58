-- The numbers of slots over all copies, in a set.
use Rattle.std.proofs.Common.{◌≡◌, ℕ, ◌+◌, ◌*◌, ◌/◌, ◌%◌, ◌<◌, ◌==◌, sym, ap, ◌∙◌}
use Rattle.std.specs.Ordering.{nat_cmp}
use Rattle.std.specs.BTreeMap.{is_at}
use Rattle.std.specs.Cmp.{unsigned_tied}
use Rattle.std.proofs.lemmas.Bool.{and_parts, and_from, eqb-true, eq-eqb}
use Rattle.std.proofs.lemmas.Nat.{div-mul-add, mod-mul-add}
use Rattle.sg_words.proofs.Uses.{same_tests}
use Rattle.sg_audit.specs.declared.table.NodeLink.{NodeLink}
use Rattle.sg_audit.specs.steps.Tables.{stands_in, slot_number}

-- a slot's number is that of a standing exactly if it stands there
pub at_slot : (link : NodeLink) (slots parent slot : ℕ) → link.standing.slot < slots → slot < slots
    → is_at (nat_cmp (slot_number link.standing slots)) (parent * slots + slot) ≡ stands_in parent slot link
at_slot link slots parent slot one two =
    unsigned_tied (slot_number link.standing slots) (parent * slots + slot)
    ∙ same_tests (slot_number link.standing slots == parent * slots + slot) (stands_in parent slot link)
    (λ same.
    let e : link.standing.parent * slots + link.standing.slot ≡ parent * slots + slot = eqb-true (slot_number link.standing slots) (parent * slots + slot) same in
    and_from (link.standing.parent == parent) (link.standing.slot == slot)
    (eq-eqb link.standing.parent parent (sym (div-mul-add link.standing.parent slots link.standing.slot one) ∙ ap (λ n. n / slots) e ∙ div-mul-add parent slots slot two))
    (eq-eqb link.standing.slot slot (sym (mod-mul-add link.standing.parent slots link.standing.slot one) ∙ ap (λ n. n % slots) e ∙ mod-mul-add parent slots slot two)))
    (λ there.
    let parts = and_parts (link.standing.parent == parent) (link.standing.slot == slot) there in
    eq-eqb (slot_number link.standing slots) (parent * slots + slot)
    (ap (λ p. p * slots + link.standing.slot) (eqb-true link.standing.parent parent parts.0) ∙ ap (λ s. parent * slots + s) (eqb-true link.standing.slot slot parts.1)))

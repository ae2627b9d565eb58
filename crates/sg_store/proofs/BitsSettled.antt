-- Masks that are settled at a bitmasked node, by its number: they may be, and what the store is then.
use Rattle.std.proofs.Common.{◌≡◌, ◌≢◌, ℕ, true, false, List, length, sym, ap, ◌∙◌, subst, inl, inr}
use Rattle.std.proofs.lemmas.Bool.{cases_Bool}
use Rattle.sg_coord.specs.declared.coord.Coord.{Coord}
use Rattle.sg_layout.specs.declared.shape.Kind.TheVariants.{Bitmasked, Dynamic}
use Rattle.sg_layout.specs.declared.shape.NodeShape.{NodeShape}
use Rattle.sg_layout.specs.PathLaws.{PathIsSlot}
use Rattle.sg_store.specs.declared.node.NodeWords.{NodeWords}
use Rattle.sg_store.specs.StoreWords.{StoreWords}
use Rattle.sg_store.specs.Slots.{mask_bit, is_set}
use Rattle.sg_store.specs.WellFormed.{IsMaskNode, IsNode}
use Rattle.sg_store.specs.Reaching.{KeepsCells}
use Rattle.sg_store.specs.Changes.{IsRemasked, ChangesNode}
use Rattle.sg_store.specs.Opening.{masks_of, CanSettleBits, WantedHaveBits, NewBitsAreWanted, OpensNode}
use Rattle.sg_store.specs.steps.AtNode.{AtNodeOf}
use Rattle.sg_store.specs.steps.Settling.{CanSettleMasks, NodeGrows}
use Rattle.sg_store.proofs.Masked.{grows_at}
use Rattle.sg_store.proofs.Opened.{keeps_cells}
use Rattle.sg_store.proofs.AtNumber.{IsAt, masks_are, says_with, EachInLive, each_in_live}
use Rattle.sg_store.proofs.OpenedBy.{opened_by}

-- a bit that gets set
abbrev pub GetsBit : List ℕ → List ℕ → ℕ → Type 0
GetsBit before masks slot = (mask_bit before slot ≡ false) × (mask_bit masks slot ≡ true)

pub can_settle : (store : StoreWords) (number i : ℕ) (node : NodeShape) (kept : NodeWords) (masks : List ℕ) → IsAt store number i node kept → node.kind ≡ Bitmasked → CanSettleBits store number masks → AtNodeOf (CanSettleMasks masks) store i
can_settle store number i node kept masks is kind can =
    let same = masks_are store number i node kept is in
    let bit : (q : ℕ) → mask_bit (masks_of store number) q ≡ mask_bit kept.masks q = λ q. ap (λ m. mask_bit m q) same in
    says_with (EachInLive (GetsBit kept.masks masks)) (CanSettleMasks masks) store number i node kept is
    (each_in_live (GetsBit kept.masks masks) store number i node kept is (λ dynamic. cc) (λ q gets. can.in_live q (bit q ∙ gets.0) gets.1))
    (λ slots live own all.
    let mask : IsMaskNode kept slots live = subst (λ k. IsNode k node kept slots live) kind own in
    record {
      is_masked = kind;
      as_many = can.as_many ∙ ap length same;
      stays = λ q on. can.stays q (bit q ∙ on);
      in_live = λ q on. elim (cases_Bool (mask_bit kept.masks q)) [
        | inl was ↦ mask.in_live q was
        | inr off ↦ (all q (off, on)).is_live
      ];
    })

pub bits_grow : (store now : StoreWords) (number i : ℕ) (node : NodeShape) (kept : NodeWords) (masks : List ℕ) → IsAt store number i node kept → node.kind ≡ Bitmasked → CanSettleBits store number masks → (changed : ChangesNode (IsRemasked masks) store now i) → AtNodeOf (NodeGrows changed.after) store i
bits_grow store now number i node kept masks is kind can changed =
    grows_at store i masks changed.kept changed.after is.well (can_settle store number i node kept masks is kind can) changed.was changed.change

pub bits_keep : (store now : StoreWords) (number i : ℕ) (node : NodeShape) (kept : NodeWords) (masks : List ℕ) → IsAt store number i node kept → node.kind ≡ Bitmasked → CanSettleBits store number masks → ChangesNode (IsRemasked masks) store now i → KeepsCells store now
bits_keep store now number i node kept masks is kind can changed =
    subst (λ s. KeepsCells store s) (sym changed.now_is)
    (keeps_cells store i changed.after (bits_grow store now number i node kept masks is kind can changed))

pub bits_open : (store now : StoreWords) (number i : ℕ) (node : NodeShape) (kept : NodeWords) (masks : List ℕ) (wanted : List Coord) → IsAt store number i node kept → PathIsSlot store.shape → node.kind ≡ Bitmasked → CanSettleBits store number masks → ChangesNode (IsRemasked masks) store now i → WantedHaveBits store number masks wanted → NewBitsAreWanted store number masks wanted → OpensNode store now number wanted
bits_open store now number i node kept masks wanted is paths kind can changed have new =
    let after : NodeWords = changed.after in
    let bit : (q : ℕ) → mask_bit (masks_of store number) q ≡ mask_bit kept.masks q = λ q. ap (λ m. mask_bit m q) (masks_are store number i node kept is) in
    let was : (q : ℕ) → is_set node.kind node kept q ≡ mask_bit kept.masks q = λ q. ap (λ k. is_set k node kept q) kind in
    let set : (q : ℕ) → is_set node.kind node after q ≡ mask_bit masks q = λ q.
    ap (λ k. is_set k node after q) kind ∙ ap (λ m. mask_bit m q) changed.change.new_masks in
    let other : node.kind ≢ Dynamic = λ dynamic. cc in
    subst (λ s. OpensNode store s number wanted) (sym changed.now_is)
    (opened_by store number i node kept after wanted is paths other (bits_grow store now number i node kept masks is kind can changed)
    (λ q off on. new q (bit q ∙ sym (was q) ∙ off) (sym (set q) ∙ on))
    (λ at wants q e. set q ∙ have at wants q e))

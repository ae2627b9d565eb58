use Rattle.std.proofs.Common.{◌≡◌, ◌<◌, ◌*◌, ◌^◌, ◌-◌, suc, length, ap, ◌∙◌, sym, arith}
use Rattle.std.specs.Prelude.{is_some}
use Rattle.sg_store.specs.StoreWords.{StoreWords}
use Rattle.sg_store.specs.Walks.{place_in}
use Rattle.sg_store.specs.Opening.{link_words_of, masks_of, lengths_of, IsInLive}
use Rattle.sg_store.proofs.AtNumber.{at_number, place_live, if_some}
use Rattle.sg_store.proofs.SlotWords.{slot_within, bit_within, key_within, parent_within}
use Rattle.sg_store.proofs.SlotsOpen.{open_has_place}
use Rattle.sg_store.proofs.store.Store.place_in.Goals as goal

placed : (c : goal.After-word_at) → c.word_at.result ≡ place_in c.args.self.now c.args.node c.args.at
placed c =
    let one : suc (c.args.node - 1) ≡ c.args.node = omega (arith, c.requires.first) in
    c.word_at.ensures ∙ ap (λ n. place_in c.args.self.now n c.args.at) one

pub returns-clause-value : goal.returns-clause-value
returns-clause-value c = placed c

pub returns-clause-in_live : goal.returns-clause-in_live
returns-clause-in_live c =
    let store : StoreWords = c.args.self.now in
    if_some c.word_at.result (IsInLive store c.args.node) (λ q e.
    place_live store c.args.node c.args.at q c.layout.ensures.well_formed (c.paths_tell.ensures.is_slot store.shape) (sym (placed c) ∙ e))

pub returns-clause-slots : goal.returns-clause-slots
returns-clause-slots c = λ pointer.
    let store : StoreWords = c.args.self.now in
    let at = at_number store c.layout.ensures.well_formed c.args.node c.requires.first c.requires.sparse in
    if_some c.word_at.result (λ slot. slot < length (link_words_of store c.args.node)) (λ q e.
    slot_within store c.args.node (c.args.node - 1) at.0 at.1 q at.2 (sym at.3 ∙ pointer)
    (place_live store c.args.node c.args.at q c.layout.ensures.well_formed (c.paths_tell.ensures.is_slot store.shape) (sym (placed c) ∙ e)))

pub returns-clause-keys : goal.returns-clause-keys
returns-clause-keys c = λ hash.
    let store : StoreWords = c.args.self.now in
    let at = at_number store c.layout.ensures.well_formed c.args.node c.requires.first c.requires.sparse in
    if_some c.word_at.result (λ key. key < 2 ^ 32) (λ q e.
    key_within store c.args.node (c.args.node - 1) at.0 at.1 q at.2 (sym at.3 ∙ hash)
    (place_live store c.args.node c.args.at q c.layout.ensures.well_formed (c.paths_tell.ensures.is_slot store.shape) (sym (placed c) ∙ e)))

pub returns-clause-bits : goal.returns-clause-bits
returns-clause-bits c = λ masked.
    let store : StoreWords = c.args.self.now in
    let at = at_number store c.layout.ensures.well_formed c.args.node c.requires.first c.requires.sparse in
    if_some c.word_at.result (λ slot. slot < 64 * length (masks_of store c.args.node)) (λ q e.
    bit_within store c.args.node (c.args.node - 1) at.0 at.1 q at.2 (sym at.3 ∙ masked)
    (place_live store c.args.node c.args.at q c.layout.ensures.well_formed (c.paths_tell.ensures.is_slot store.shape) (sym (placed c) ∙ e)))

pub returns-clause-parents : goal.returns-clause-parents
returns-clause-parents c = λ dynamic.
    let store : StoreWords = c.args.self.now in
    let at = at_number store c.layout.ensures.well_formed c.args.node c.requires.first c.requires.sparse in
    if_some c.word_at.result (λ parent. parent < length (lengths_of store c.args.node)) (λ q e.
    parent_within store c.args.node (c.args.node - 1) at.0 at.1 q at.2 (sym at.3 ∙ dynamic)
    (place_live store c.args.node c.args.at q c.layout.ensures.well_formed (c.paths_tell.ensures.is_slot store.shape) (sym (placed c) ∙ e)))

pub returns-clause-open : goal.returns-clause-open
returns-clause-open c = λ old all is_open has.
    let store : StoreWords = c.args.self.now in
    let at = at_number store c.layout.ensures.well_formed c.args.node c.requires.first c.requires.sparse in
    ap is_some (placed c)
    ∙ open_has_place store c.args.node (c.args.node - 1) at.0 at.1 old all c.args.at at.2 (c.paths_tell.ensures.is_slot store.shape) is_open has

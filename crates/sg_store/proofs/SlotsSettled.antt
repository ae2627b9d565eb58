-- Links that are settled at a pointer node, by its number: they may be, and what the store is then.
use Rattle.std.proofs.Common.{◌≡◌, ◌≢◌, ℕ, ◌+◌, ◌≤◌, true, false, not, List, length, sym, ap, ◌∙◌, subst, arith}
use Rattle.std.specs.Prelude.{slice_get, slice_index, ◌==◌}
use Rattle.std.proofs.lemmas.Bool.{false≢true}
use Rattle.std.proofs.lemmas.Bool.Decides.{nat_tests}
use Rattle.sg_coord.specs.declared.coord.Coord.{Coord}
use Rattle.sg_layout.specs.declared.shape.Kind.TheVariants.{Pointer, Dynamic}
use Rattle.sg_layout.specs.declared.shape.NodeShape.{NodeShape}
use Rattle.sg_layout.specs.Axes.{count_of}
use Rattle.sg_layout.specs.PathLaws.{PathIsSlot}
use Rattle.sg_pool.specs.Numbers.{live_count, CanSettle}
use Rattle.sg_store.specs.declared.node.NodeWords.{NodeWords}
use Rattle.sg_store.specs.StoreWords.{StoreWords}
use Rattle.sg_store.specs.Slots.{is_set}
use Rattle.sg_store.specs.WellFormed.{IsPointerNode, IsNode}
use Rattle.sg_store.specs.Reaching.{KeepsCells}
use Rattle.sg_store.specs.Changes.{IsRelinked, ChangesNode}
use Rattle.sg_store.specs.Opening.{link_words_of, CanSettleSlots, FitsCap, WantedHaveLinks, NewLinksAreWanted, OpensNode}
use Rattle.sg_store.specs.steps.AtNode.{AtNodeOf}
use Rattle.sg_store.specs.steps.Settling.{CanSettleLinks, NodeGrows}
use Rattle.sg_store.proofs.Settled.{grows_at}
use Rattle.sg_store.proofs.Opened.{keeps_cells}
use Rattle.sg_store.proofs.AtNumber.{IsAt, back_to, links_are, pool_is, says_with, EachInLive, each_in_live}
use Rattle.sg_store.proofs.OpenedBy.{opened_by}

-- a slot that gets a link
abbrev pub GetsLink : List ℕ → List ℕ → ℕ → Type 0
GetsLink before links slot = (slice_index before slot ≡ 0) × (slice_index links slot ≢ 0)

pub can_settle : (store : StoreWords) (number i : ℕ) (node : NodeShape) (kept : NodeWords) (links taken : List ℕ) → IsAt store number i node kept → node.kind ≡ Pointer → CanSettleSlots store number links taken → FitsCap store number taken → AtNodeOf (CanSettleLinks links taken) store i
can_settle store number i node kept links taken is kind can fits =
    let same = links_are store number i node kept is in
    let word : (q : ℕ) → slice_index (link_words_of store number) q ≡ slice_index kept.links q = λ q. ap (λ l. slice_index l q) same in
    let pool = pool_is store number i node kept is in
    let back = back_to number i is.next in
    let fit : live_count kept.pool + length taken ≤ count_of node.cap =
    subst (λ p. live_count p + length taken ≤ count_of node.cap) pool
    (fits node (record { first = omega (arith, is.next); there = ap (slice_get store.shape.nodes) back ∙ is.at })) in
    says_with (EachInLive (GetsLink kept.links links)) (CanSettleLinks links taken) store number i node kept is
    (each_in_live (GetsLink kept.links links) store number i node kept is (λ dynamic. cc) (λ q gets. can.in_live q (word q ∙ gets.0) gets.1))
    (λ slots live own all.
    let pointer : IsPointerNode node kept slots live = subst (λ k. IsNode k node kept slots live) kind own in
    record {
      can = record {
        is_pointer = kind;
        as_many = can.as_many ∙ ap length same ∙ pointer.link_count;
        stays = λ q some. can.stays q (λ none. some (sym (word q) ∙ none)) ∙ word q;
        of_taken = λ q n none e. can.of_taken q n (word q ∙ none) e;
        in_live = λ q none some. (all q (none, some)).is_live;
        all_taken = can.all_taken;
        once = can.once;
        free = subst (λ p. CanSettle p taken) pool can.free;
      };
      within_cap = fit;
    })

pub slots_grow : (store now : StoreWords) (number i : ℕ) (node : NodeShape) (kept : NodeWords) (links taken : List ℕ) → IsAt store number i node kept → node.kind ≡ Pointer → CanSettleSlots store number links taken → FitsCap store number taken → (changed : ChangesNode (IsRelinked links taken) store now i) → AtNodeOf (NodeGrows changed.after) store i
slots_grow store now number i node kept links taken is kind can fits changed =
    grows_at store i links taken changed.kept changed.after is.well (can_settle store number i node kept links taken is kind can fits) changed.was changed.change

pub slots_keep : (store now : StoreWords) (number i : ℕ) (node : NodeShape) (kept : NodeWords) (links taken : List ℕ) → IsAt store number i node kept → node.kind ≡ Pointer → CanSettleSlots store number links taken → FitsCap store number taken → ChangesNode (IsRelinked links taken) store now i → KeepsCells store now
slots_keep store now number i node kept links taken is kind can fits changed =
    subst (λ s. KeepsCells store s) (sym changed.now_is)
    (keeps_cells store i changed.after (slots_grow store now number i node kept links taken is kind can fits changed))

not_filled : (word : ℕ) → not (word == 0) ≡ false → word ≡ 0
not_filled word off = grind (arith, nat_tests)

filled : (word : ℕ) → not (word == 0) ≡ true → word ≢ 0
filled word on none = false≢true (sym (ap (λ n. not (n == 0)) none) ∙ on)

is_filled : (word : ℕ) → word ≢ 0 → not (word == 0) ≡ true
is_filled word some = grind (arith, nat_tests)

pub slots_open : (store now : StoreWords) (number i : ℕ) (node : NodeShape) (kept : NodeWords) (links taken : List ℕ) (wanted : List Coord) → IsAt store number i node kept → PathIsSlot store.shape → node.kind ≡ Pointer → CanSettleSlots store number links taken → FitsCap store number taken → ChangesNode (IsRelinked links taken) store now i → WantedHaveLinks store number links wanted → NewLinksAreWanted store number links wanted → OpensNode store now number wanted
slots_open store now number i node kept links taken wanted is paths kind can fits changed have new =
    let after : NodeWords = changed.after in
    let word : (q : ℕ) → slice_index (link_words_of store number) q ≡ slice_index kept.links q = λ q. ap (λ l. slice_index l q) (links_are store number i node kept is) in
    let later : (q : ℕ) → slice_index after.links q ≡ slice_index links q = λ q. ap (λ l. slice_index l q) changed.change.new_links in
    let was : (q : ℕ) → is_set node.kind node kept q ≡ not (slice_index kept.links q == 0) = λ q. ap (λ k. is_set k node kept q) kind in
    let set : (q : ℕ) → is_set node.kind node after q ≡ not (slice_index links q == 0) = λ q.
    ap (λ k. is_set k node after q) kind ∙ ap (λ n. not (n == 0)) (later q) in
    let other : node.kind ≢ Dynamic = λ dynamic. cc in
    subst (λ s. OpensNode store s number wanted) (sym changed.now_is)
    (opened_by store number i node kept after wanted is paths other (slots_grow store now number i node kept links taken is kind can fits changed)
    (λ q off on. new q (word q ∙ not_filled (slice_index kept.links q) (sym (was q) ∙ off)) (filled (slice_index links q) (sym (set q) ∙ on)))
    (λ at wants q e. set q ∙ is_filled (slice_index links q) (have at wants q e)))

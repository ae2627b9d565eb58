-- A node of each kind whose words are trimmed.
use Rattle.std.proofs.Common.{◌≡◌, ◌≢◌, ℕ, zero, suc, Bool, true, false, not, ◌&&◌, cond, length, Option, Some, None, is_some, refl, sym, ap, ◌∙◌, subst}
use Rattle.std.specs.Prelude.{slice_index, ◌==◌}
use Rattle.std.proofs.lemmas.Bool.{false≢true, ne_eqb}
use Rattle.std.proofs.lemmas.Option.{same_Some}
use Rattle.sg_layout.specs.declared.shape.Kind.{Kind}
use Rattle.sg_layout.specs.declared.shape.Kind.TheVariants.{Dense, Bitmasked, Pointer, Hash, Dynamic}
use Rattle.sg_layout.specs.declared.shape.NodeShape.{NodeShape}
use Rattle.sg_hash.specs.Tables.{beside}
use Rattle.sg_store.specs.declared.node.NodeWords.{NodeWords}
use Rattle.sg_store.specs.Slots.{is_set, place_below, linked, links_by_slot, mask_bit}
use Rattle.sg_store.specs.WellFormed.{IsNode, IsHashNode, by_slots, live_below}
use Rattle.sg_store.specs.steps.Trimming.{stays_set, TrimsNode, IsTrimmed}
use Rattle.sg_store.specs.steps.Cutting.{TrimsLinks, TrimsTable, TrimsParents, below_lengths}
use Rattle.sg_store.proofs.BySlots.{links_many, linked_beside}
use Rattle.sg_store.proofs.Walking.{linked_is, linked_some}
use Rattle.sg_store.proofs.TrimmedLinks.{links_trim}
use Rattle.sg_store.proofs.TrimmedKeys.{keys_trim, bits_trim}
use Rattle.sg_store.proofs.TrimmedLengths.{lengths_trim, chains_trim}

-- what a trimmed node is, by its kind
record Facts (kind : Kind) (keeps : ℕ → Bool) (node : NodeShape) (kept after : NodeWords) : Type 0 where
  trims : TrimsNode (stays_set kind keeps node kept) node kept after
  is_node : (slots : ℕ) (live now : ℕ → Bool) → IsNode kind node kept slots live →
      (kind ≢ Dense → (slot : ℕ) → is_set kind node kept slot ≡ true → stays_set kind keeps node kept slot ≡ true → now slot ≡ true) → IsNode kind node after slots now
  below : kind ≢ Dynamic → (now : ℕ → Bool) (slot place : ℕ) → stays_set kind keeps node kept slot ≡ true → now slot ≡ true →
      place_below kind node kept slot ≡ Some place → live_below kind after now place ≡ true

of_kind : (kind : Kind) (keeps : ℕ → Bool) (node : NodeShape) (kept after : NodeWords) → node.kind ≡ kind → Facts kind keeps node kept after → IsTrimmed keeps node kept after
of_kind kind keeps node kept after is facts =
    let mine : Facts node.kind keeps node kept after = subst (λ k. Facts k keeps node kept after) (sym is) facts in
    record { trims = mine.trims; is_node = mine.is_node; below = mine.below }

-- ── Dense ──

pub dense_trimmed : (keeps : ℕ → Bool) (node : NodeShape) (kept after : NodeWords) → node.kind ≡ Dense → IsTrimmed keeps node kept after
dense_trimmed keeps node kept after is = of_kind Dense keeps node kept after is (record {
  trims = record {
    set = λ slot. ap (λ k. is_set k node after slot) is ∙ sym (ap (λ k. is_set k node kept slot && true) is);
    leads = λ slot on. ap (λ k. place_below k node after slot) is ∙ sym (ap (λ k. place_below k node kept slot) is);
    less = λ slot place leads. ap (λ k. place_below k node kept slot) is ∙ sym (ap (λ k. place_below k node after slot) is) ∙ leads;
  };
  is_node = λ slots live now was first. tt;
  below = λ other now slot place stays on leads. ap now (sym (same_Some slot place leads)) ∙ on;
})

-- ── Bitmasked ──

pub mask_trimmed : (keeps : ℕ → Bool) (node : NodeShape) (kept after : NodeWords) → node.kind ≡ Bitmasked → length after.masks ≡ length kept.masks → ((slot : ℕ) → mask_bit after.masks slot ≡ (mask_bit kept.masks slot && stays_set Bitmasked keeps node kept slot)) → IsTrimmed keeps node kept after
mask_trimmed keeps node kept after is many bits = of_kind Bitmasked keeps node kept after is (record {
  trims = bits_trim (stays_set Bitmasked keeps node kept) node kept after is bits;
  is_node = λ slots live now was first. record {
    word_count = many ∙ was.word_count;
    in_live = λ slot on. both (mask_bit kept.masks slot) (stays_set Bitmasked keeps node kept slot) (sym (bits slot) ∙ on) (λ set stays. first (λ e. cc) slot set stays);
  };
  below = λ other now slot place stays on leads. ap now (sym (same_Some slot place leads)) ∙ on;
})
  where
    both : {A : Type 0} → (a b : Bool) → (a && b) ≡ true → (a ≡ true → b ≡ true → A) → A
    both true b e f = f refl e
    both false b e f = absurd (false≢true e)

-- ── Pointer ──

pub pointer_trimmed : (keeps : ℕ → Bool) (node : NodeShape) (kept after : NodeWords) → node.kind ≡ Pointer → TrimsLinks (stays_set Pointer keeps node kept) kept after → IsTrimmed keeps node kept after
pointer_trimmed keeps node kept after is trims =
    let law = links_trim (stays_set Pointer keeps node kept) node kept after in
    of_kind Pointer keeps node kept after is (record {
      trims = law.trims is trims;
      is_node = λ slots live now was first. law.is_node trims slots live now was (λ slot stays some. first (λ e. cc) slot (word_set (slice_index kept.links slot) some) stays);
      below = λ other now slot place stays on leads. (trims.live place).1 (record { slot = slot; is_kept = stays; holds = linked_is (slice_index kept.links slot) place leads });
    })
  where
    word_set : (word : ℕ) → word ≢ 0 → not (word == 0) ≡ true
    word_set zero some = absurd (some refl)
    word_set (suc n) some = ap not (ne_eqb (suc n) 0 some)

-- ── Hash ──

pub hash_trimmed : (keeps : ℕ → Bool) (node : NodeShape) (kept after : NodeWords) → node.kind ≡ Hash → TrimsTable (stays_set Hash keeps node kept) kept after → IsTrimmed keeps node kept after
hash_trimmed keeps node kept after is trims =
    let stays : ℕ → Bool = stays_set Hash keeps node kept in
    let law = keys_trim stays node kept after in
    of_kind Hash keeps node kept after is (record {
      trims = law.trims is trims.keys;
      is_node = λ slots live now was first. table_again slots live now was (first (λ e. cc));
      below = λ other now slot place on live leads. (trims.live place).1 (record { key = slot; is_kept = on; holds = leads });
    })
  where
    stays : ℕ → Bool
    stays = stays_set Hash keeps node kept

    was_some : (b : Bool) (o : Option ℕ) → is_some (cond b o None) ≡ true → is_some o ≡ true
    was_some true o e = e
    was_some false o e = absurd (false≢true e)

    by_links : (slots : ℕ) (live : ℕ → Bool) → IsHashNode node kept slots live → (key : ℕ) → linked (slice_index (links_by_slot kept.keys kept.links slots) key) ≡ beside kept.keys kept.links key
    by_links slots live was key = linked_beside kept.keys kept.links slots was.keys_are_slots key

    cut : (slots : ℕ) (live : ℕ → Bool) → IsHashNode node kept slots live → TrimsLinks stays (by_slots kept slots) (by_slots after slots)
    cut slots live was = record {
      links = (keys_trim stays node kept after).links trims.keys slots;
      as_many = links_many after.keys after.links slots ∙ sym (links_many kept.keys kept.links slots);
      places = trims.places;
      live = λ number. (
        λ on. let at = (trims.live number).0 on in
            record { slot = at.key; is_kept = at.is_kept; holds = linked_is (slice_index (links_by_slot kept.keys kept.links slots) at.key) number (by_links slots live was at.key ∙ at.holds) },
        λ at. (trims.live number).1
            (record { key = at.slot; is_kept = at.is_kept; holds = sym (by_links slots live was at.slot) ∙ linked_some (slice_index (links_by_slot kept.keys kept.links slots) at.slot) number at.holds }),
      );
    }

    word_set : (word : ℕ) → word ≢ 0 → is_some (linked word) ≡ true
    word_set zero some = absurd (some refl)
    word_set (suc n) some = refl

    table_again : (slots : ℕ) (live now : ℕ → Bool) → IsHashNode node kept slots live → ((slot : ℕ) → is_set Hash node kept slot ≡ true → stays slot ≡ true → now slot ≡ true) → IsHashNode node after slots now
    table_again slots live now was first = record {
      key_count = trims.as_many ∙ was.key_count;
      table = trims.table;
      links_beside = trims.links_beside;
      few_slots = was.few_slots;
      keys_are_slots = λ key some. was.keys_are_slots key (was_some (stays key) (beside kept.keys kept.links key) (ap is_some (sym (trims.keys key)) ∙ some));
      as_pointer = (links_trim stays node (by_slots kept slots) (by_slots after slots)).is_node (cut slots live was) slots live now was.as_pointer
          (λ slot on some. first slot (ap is_some (sym (by_links slots live was slot)) ∙ word_set (slice_index (links_by_slot kept.keys kept.links slots) slot) some) on);
    }

-- ── Dynamic ──

pub dynamic_trimmed : (keeps : ℕ → Bool) (node : NodeShape) (kept after : NodeWords) → node.kind ≡ Dynamic → TrimsParents (stays_set Dynamic keeps node kept) node kept after → IsTrimmed keeps node kept after
dynamic_trimmed keeps node kept after is trims =
    let stays : ℕ → Bool = stays_set Dynamic keeps node kept in
    let law = lengths_trim node kept after is trims.chains.trims in
    let below_now : (slot : ℕ) → stays slot ≡ true → below_lengths node after slot ≡ true = λ slot on.
    trims.below slot ∙ ap (λ b. b && stays slot) (trims.only_below slot on) ∙ on in
    of_kind Dynamic keeps node kept after is (record {
      trims = record {
        set = λ slot. ap (λ k. is_set k node after slot) is ∙ trims.below slot ∙ sym (ap (λ k. is_set k node kept slot && stays slot) is);
        leads = λ slot on. law.leads slot (below_now slot on);
        less = law.less;
      };
      is_node = λ slots live now was first. chains_trim node kept after trims.chains slots live now was
          (λ slot on. both (below_lengths node kept slot) (stays slot) (sym (trims.below slot) ∙ on) (λ set stays_on. first (λ e. cc) slot set stays_on));
      below = λ other. absurd (other refl);
    })
  where
    both : {A : Type 0} → (a b : Bool) → (a && b) ≡ true → (a ≡ true → b ≡ true → A) → A
    both true b e f = f refl e
    both false b e f = absurd (false≢true e)

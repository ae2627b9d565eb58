-- A store that has got the words of one more level: what stays, and what it has.
use Rattle.std.proofs.Common.{◌≡◌, ◌≢◌, ℕ, zero, suc, ◌+◌, ◌-◌, ◌<◌, inl, inr, List, [], ◌∷◌, ◌++◌, refl, sym, ap, ◌∙◌, subst, arith}
use Rattle.std.specs.Prelude.{Some, slice_index, slice_get, slice_set}
use Rattle.std.proofs.lemmas.Bool.{cases_eq}
use Rattle.sg_words.specs.declared.race.Worker.{Worker}
use Rattle.sg_coord.specs.declared.coord.Coord.{Coord}
use Rattle.sg_layout.specs.declared.shape.Kind.TheVariants.{Bitmasked, Pointer}
use Rattle.sg_layout.specs.Live.{kind_at}
use Rattle.sg_store.specs.declared.node.NodeWords.{NodeWords}
use Rattle.sg_store.specs.StoreWords.{StoreWords}
use Rattle.sg_store.specs.WellFormed.{IsWellFormed}
use Rattle.sg_store.specs.Reaching.{KeepsCells, IsOpenThrough}
use Rattle.sg_store.specs.Changes.{IsRelinked, IsRemasked, ChangesNode}
use Rattle.sg_store.specs.Opening.{links_or_none, link_words_of, keys_or_none, keys_of, masks_or_none, masks_of, lengths_or_none, lengths_of}
use Rattle.sg_activate.specs.declared.descent.rule.Start.{Start}
use Rattle.sg_activate.specs.Descending.{open_before, FitsSeat, StaysAt}
use Rattle.sg_activate.specs.steps.DescentEnds.{slots_of_node, masks_of_node, HasGot}

-- ---- the words of nodes after one was changed
set_there : (xs : List NodeWords) (i : ℕ) (x y : NodeWords) → slice_get xs i ≡ Some x → slice_get (slice_set xs i y) i ≡ Some y
set_there [] i x y has = absurd (cc)
set_there (z ∷ xs) zero x y has = refl
set_there (z ∷ xs) (suc i) x y has = set_there xs i x y has

set_apart : (xs : List NodeWords) (i j : ℕ) (y : NodeWords) → j ≢ i → slice_get (slice_set xs i y) j ≡ slice_get xs j
set_apart [] i j y apart = refl
set_apart (z ∷ xs) zero zero y apart = absurd (apart refl)
set_apart (z ∷ xs) zero (suc j) y apart = refl
set_apart (z ∷ xs) (suc i) zero y apart = refl
set_apart (z ∷ xs) (suc i) (suc j) y apart = set_apart xs i j y (λ same. apart (ap suc same))

-- one node's words changed: its links stay where they were, and its keys and lengths; those of all others stay
pub record HasTurned (old now : StoreWords) (number : ℕ) : Type 0 where
  pub others : (j : ℕ) → j ≢ number - 1 → slice_get now.nodes j ≡ slice_get old.nodes j
  pub links : (i : ℕ) → 0 < slice_index (link_words_of old number) i → slice_index (link_words_of now number) i ≡ slice_index (link_words_of old number) i
  pub keys : keys_of now number ≡ keys_of old number
  pub lengths : lengths_of now number ≡ lengths_of old number

pub turned_not : (store : StoreWords) (number : ℕ) → HasTurned store store number
turned_not store number = record { others = λ j apart. refl; links = λ i some. refl; keys = refl; lengths = refl }

node_now : (Change : NodeWords → NodeWords → Type 0) (old now : StoreWords) (number : ℕ) (changed : ChangesNode Change old now (number - 1)) → slice_get now.nodes (number - 1) ≡ Some changed.after
node_now Change old now number changed = ap (λ (s : StoreWords). slice_get s.nodes (number - 1)) changed.now_is ∙ set_there old.nodes (number - 1) changed.kept changed.after changed.was

other_now : (Change : NodeWords → NodeWords → Type 0) (old now : StoreWords) (number : ℕ) → ChangesNode Change old now (number - 1) → (j : ℕ) → j ≢ number - 1 → slice_get now.nodes j ≡ slice_get old.nodes j
other_now Change old now number changed j apart = ap (λ (s : StoreWords). slice_get s.nodes j) changed.now_is ∙ set_apart old.nodes (number - 1) j changed.after apart

pub links_now : (old now : StoreWords) (number : ℕ) (links taken : List ℕ) → ChangesNode (IsRelinked links taken) old now (number - 1) → link_words_of now number ≡ links
links_now old now number links taken changed = ap links_or_none (node_now (IsRelinked links taken) old now number changed) ∙ changed.change.new_links

pub turned_links : (old now : StoreWords) (number : ℕ) (links taken : List ℕ) → ChangesNode (IsRelinked links taken) old now (number - 1)
    → ((i : ℕ) → 0 < slice_index (link_words_of old number) i → slice_index links i ≡ slice_index (link_words_of old number) i) → HasTurned old now number
turned_links old now number links taken changed stay =
    let has = node_now (IsRelinked links taken) old now number changed in
    record {
      others = other_now (IsRelinked links taken) old now number changed;
      links = λ i some. ap (λ ws. slice_index ws i) (links_now old now number links taken changed) ∙ stay i some;
      keys = ap keys_or_none has ∙ changed.change.same_keys ∙ sym (ap keys_or_none changed.was);
      lengths = ap lengths_or_none has ∙ changed.change.same_lengths ∙ sym (ap lengths_or_none changed.was);
    }

pub masks_now : (old now : StoreWords) (number : ℕ) (masks : List ℕ) → ChangesNode (IsRemasked masks) old now (number - 1) → masks_of now number ≡ masks
masks_now old now number masks changed = ap masks_or_none (node_now (IsRemasked masks) old now number changed) ∙ changed.change.new_masks

pub turned_masks : (old now : StoreWords) (number : ℕ) (masks : List ℕ) → ChangesNode (IsRemasked masks) old now (number - 1) → HasTurned old now number
turned_masks old now number masks changed =
    let has = node_now (IsRemasked masks) old now number changed in
    let same : link_words_of now number ≡ link_words_of old number = ap links_or_none has ∙ changed.change.same_links ∙ sym (ap links_or_none changed.was) in
    record {
      others = other_now (IsRemasked masks) old now number changed;
      links = λ i some. ap (λ ws. slice_index ws i) same;
      keys = ap keys_or_none has ∙ changed.change.same_keys ∙ sym (ap keys_or_none changed.was);
      lengths = ap lengths_or_none has ∙ changed.change.same_lengths ∙ sym (ap lengths_or_none changed.was);
    }

-- ---- what stays
pub stays_next : (store old now : StoreWords) (number : ℕ) → StaysAt store old → HasTurned old now number → StaysAt store now
stays_next store old now number stays turned = record {
  links = λ n i some. elim (cases_eq (n - 1) (number - 1)) [
    | inl same ↦
        let here : (s : StoreWords) → link_words_of s n ≡ link_words_of s number = λ s. ap (λ j. links_or_none (slice_get s.nodes j)) same in
        let was = stays.links n i some in
        let was' : slice_index (link_words_of old number) i ≡ slice_index (link_words_of store n) i = ap (λ ws. slice_index ws i) (sym (here old)) ∙ was in
        ap (λ ws. slice_index ws i) (here now) ∙ turned.links i (subst (λ w. 0 < w) (sym was') some) ∙ was'
    | inr apart ↦ ap (λ o. slice_index (links_or_none o) i) (turned.others (n - 1) apart) ∙ stays.links n i some
  ];
  keys = elim (cases_eq (1 - 1) (number - 1)) [
    | inl same ↦
        let here : (s : StoreWords) → keys_of s 1 ≡ keys_of s number = λ s. ap (λ j. keys_or_none (slice_get s.nodes j)) same in
        here now ∙ turned.keys ∙ sym (here old) ∙ stays.keys
    | inr apart ↦ ap keys_or_none (turned.others (1 - 1) apart) ∙ stays.keys
  ];
  lengths = λ n. elim (cases_eq (n - 1) (number - 1)) [
    | inl same ↦
        let here : (s : StoreWords) → lengths_of s n ≡ lengths_of s number = λ s. ap (λ j. lengths_or_none (slice_get s.nodes j)) same in
        here now ∙ turned.lengths ∙ sym (here old) ∙ stays.lengths n
    | inr apart ↦ ap lengths_or_none (turned.others (n - 1) apart) ∙ stays.lengths n
  ];
}

keeps_then : (store old now : StoreWords) → KeepsCells store old → KeepsCells old now → KeepsCells store now
keeps_then store old now first second = record {
  same_shape = second.same_shape ∙ first.same_shape;
  same_fields = second.same_fields ∙ first.same_fields;
  same_cells = λ slot cell leads. second.same_cells slot cell (first.same_cells slot cell leads);
  same_leads = λ index slot place leads. second.same_leads index slot place (first.same_leads index slot place leads);
}

pub keeps_same : (store : StoreWords) → KeepsCells store store
keeps_same store = record { same_shape = refl; same_fields = refl; same_cells = λ slot cell leads. leads; same_leads = λ index slot place leads. leads }

-- ---- one level more
pub got_first : (start : Start) (base : ℕ) (v : Worker) (links masks : List ℕ) (store : StoreWords) → base ≡ open_before store.shape → IsWellFormed store → HasGot start base v links masks store store 0
got_first start base v links masks store based well =
    let none : base + 0 ≡ base = omega arith in
    record {
      well_formed = well;
      keeps = keeps_same store;
      stays = record { links = λ n i some. refl; keys = refl; lengths = λ n. refl };
      got = λ n past upto pointer. absurd (omega arith);
      marked = λ n past upto masked. absurd (omega arith);
      above = λ n first upto. refl;
      below = λ n past. refl;
      opened = λ old wanted fits was_open. subst (IsOpenThrough store old (old ++ wanted)) (sym based ∙ sym none) was_open;
    }

module _ (start : Start) (base : ℕ) (v : Worker) (links masks : List ℕ) (store old now : StoreWords) (k number : ℕ) (here : number ≡ suc (base + k)) where
  pub got_next : HasGot start base v links masks store old k → HasTurned old now number → IsWellFormed now → KeepsCells old now
      → (kind_at store.shape.nodes number ≡ Pointer → link_words_of now number ≡ slots_of_node start number links)
      → (kind_at store.shape.nodes number ≡ Bitmasked → masks_of now number ≡ masks_of_node start number masks)
      → ((before wanted : List Coord) → FitsSeat start v wanted → IsOpenThrough old before (before ++ wanted) (number - 1) → IsOpenThrough now before (before ++ wanted) number)
      → HasGot start base v links masks store now (suc k)
  got_next g turned well keeps links_are masks_are opens =
      let next : number ≡ base + suc k = omega arith in
      let last : base + k ≡ number - 1 = omega arith in
      record {
        well_formed = well;
        keeps = keeps_then store old now g.keeps keeps;
        stays = stays_next store old now number g.stays turned;
        got = λ n past upto pointer. elim (cases_eq n number) [
          | inl same ↦ subst (λ m. link_words_of now m ≡ slots_of_node start m links) (sym same) (links_are (subst (λ m. kind_at store.shape.nodes m ≡ Pointer) same pointer))
          | inr apart ↦ ap links_or_none (turned.others (n - 1) (λ e. apart (omega arith))) ∙ g.got n past (omega arith) pointer
        ];
        marked = λ n past upto masked. elim (cases_eq n number) [
          | inl same ↦ subst (λ m. masks_of now m ≡ masks_of_node start m masks) (sym same) (masks_are (subst (λ m. kind_at store.shape.nodes m ≡ Bitmasked) same masked))
          | inr apart ↦ ap masks_or_none (turned.others (n - 1) (λ e. apart (omega arith))) ∙ g.marked n past (omega arith) masked
        ];
        above = λ n first upto. turned.others (n - 1) (λ e. absurd (omega arith)) ∙ g.above n first upto;
        below = λ n past. turned.others (n - 1) (λ e. absurd (omega arith)) ∙ g.below n (omega arith);
        opened = λ before wanted fits was_open. subst (IsOpenThrough now before (before ++ wanted)) next (opens before wanted fits (subst (IsOpenThrough old before (before ++ wanted)) last (g.opened before wanted fits was_open)));
      }

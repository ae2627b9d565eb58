-- One slot after the other is written beside the number that it holds.
use Rattle.std.proofs.Common.{◌≡◌, ◌≢◌, ℕ, suc, ◌+◌, ◌*◌, ◌<◌, ◌≤◌, List, [], length, refl, sym, ap, ◌∙◌, arith, inl, inr}
use Rattle.std.specs.Prelude.{Some, slice_index, slice_get, slice_set}
use Rattle.std.proofs.lemmas.Bool.{cases_eq, cases_lt}
use Rattle.std.proofs.lemmas.List.{length-set, get_or-set_same, get_or-set_other}
use Rattle.std.proofs.lemmas.Option.{same_Some, slice_get_within}
use Rattle.sg_links.specs.Lists.{Lists, list_of, times_in_lists, AreDisjoint}
use Rattle.sg_links.proofs.Uses.{stands, times_at, stands_at_one_place}
use Rattle.sg_store.specs.steps.Noting.{IsLinkedOnce, IsNoted, HeldSoFar, ChainNoted, ChainsNoted}

-- ── Links ──

pub noted_none : (slot : ℕ) (slots : List ℕ) (link : ℕ) → link ≡ 0 → IsNoted link slot slots slots
noted_none slot slots link none = record {
  as_many = refl;
  here = λ number is. absurd (let h : suc number ≡ 0 = sym is ∙ none in omega arith);
  elsewhere = λ number other. refl;
}

pub noted_one : (link slot number : ℕ) (old new : List ℕ) → link ≡ suc number → number < length old → new ≡ slice_set old number slot → IsNoted link slot old new
noted_one link slot number old new link_is below is = record {
  as_many = ap length is ∙ length-set old number slot;
  here = λ other same.
      let one : other ≡ number = omega (arith, link_is, same) in
      ap (slice_index new) one ∙ ap (λ (xs : List ℕ). slice_index xs number) is ∙ get_or-set_same old number slot 0 below;
  elsewhere = λ other apart.
      ap (λ (xs : List ℕ). slice_index xs other) is ∙ get_or-set_other old number other slot 0 (λ e. apart (link_is ∙ ap suc (sym e)));
}

pub held_none : (slot_of : ℕ → ℕ) (links slots : List ℕ) → HeldSoFar slot_of links slots slots 0
held_none slot_of links slots = record { as_many = refl; held = λ place number below holds. absurd (omega (arith, below)) }

pub held_more : (slot_of : ℕ → ℕ) (links old now new : List ℕ) (through : ℕ) → IsLinkedOnce links → HeldSoFar slot_of links old now through → IsNoted (slice_index links through) (slot_of through) now new → HeldSoFar slot_of links old new (through + 1)
held_more slot_of links old now new through once so_far noted = record {
  as_many = noted.as_many ∙ so_far.as_many;
  held = λ place number below holds. elim (cases_eq place through) [
    | inl same ↦ noted.here number (ap (slice_index links) (sym same) ∙ holds) ∙ ap slot_of (sym same)
    | inr other ↦
        let apart : slice_index links through ≢ suc number = λ also.
        other (once place through (λ none. absurd (let h : suc number ≡ 0 = sym holds ∙ none in omega arith)) (holds ∙ sym also)) in
        noted.elsewhere number apart ∙ so_far.held place number (omega (arith, below, other)) holds
  ];
}

-- ── Chains ──

pub chain_stands : (chains : Lists) (head place number : ℕ) → head < length chains.lists → slice_get (list_of chains head) place ≡ Some number → 0 < times_in_lists number chains.lists
chain_stands chains head place number there at = omega (arith, stands (list_of chains head) place number at, times_at number chains.lists head there)

pub chain_none : (chain : List ℕ) (first : ℕ) (slots : List ℕ) → ChainNoted chain first 0 slots slots
chain_none chain first slots = record {
  as_many = refl;
  here = λ place number below is. absurd (omega (arith, below));
  elsewhere = λ number not_there. refl;
}

pub chain_more : (chain : List ℕ) (first through number : ℕ) (old now new : List ℕ) → ((x y n : ℕ) → slice_get chain x ≡ Some n → slice_get chain y ≡ Some n → x ≡ y) → slice_get chain through ≡ Some number → number < length now → new ≡ slice_set now number (first + through)
    → ChainNoted chain first through old now → ChainNoted chain first (through + 1) old new
chain_more chain first through number old now new once at below is so_far = record {
  as_many = ap length is ∙ length-set now number (first + through) ∙ so_far.as_many;
  here = λ place other low holds. elim (cases_eq place through) [
    | inl same ↦
        let one : other ≡ number = same_Some other number (sym holds ∙ ap (slice_get chain) same ∙ at) in
        ap (slice_index new) one ∙ ap (λ (xs : List ℕ). slice_index xs number) is ∙ get_or-set_same now number (first + through) 0 below ∙ ap (λ p. first + p) (sym same)
    | inr apart ↦
        ap (λ (xs : List ℕ). slice_index xs other) is
        ∙ get_or-set_other now number other (first + through) 0 (λ e. apart (once place through number (holds ∙ ap (λ n. Some n) e) at))
        ∙ so_far.here place other (omega (arith, low, apart)) holds
  ];
  elsewhere = λ other not_there.
      ap (λ (xs : List ℕ). slice_index xs other) is
      ∙ get_or-set_other now number other (first + through) 0 (λ e. not_there through (at ∙ ap (λ n. Some n) (sym e)))
      ∙ so_far.elsewhere other not_there;
}

pub chains_none : (chains : Lists) (full : ℕ) (slots : List ℕ) → ChainsNoted chains full 0 slots slots
chains_none chains full slots = record { as_many = refl; here = λ head place number below is. absurd (omega (arith, below)) }

-- chains that are empty hold nothing
pub chains_end : (chains : Lists) (full through all : ℕ) (old new : List ℕ) → ((head : ℕ) → through ≤ head → list_of chains head ≡ []) → ChainsNoted chains full through old new → ChainsNoted chains full all old new
chains_end chains full through all old new empty noted = record {
  as_many = noted.as_many;
  here = λ head place number low holds. elim (cases_lt head through) [
    | inl before ↦ noted.here head place number before holds
    | inr past ↦ absurd (omega (arith, slice_get_within (list_of chains head) place number holds, ap length (empty head past)))
  ];
}

pub chains_more : (chains : Lists) (full through : ℕ) (old now new : List ℕ) → AreDisjoint chains → ChainsNoted chains full through old now
    → ChainNoted (list_of chains through) (through * full) (length (list_of chains through)) now new → ChainsNoted chains full (through + 1) old new
chains_more chains full through old now new disjoint so_far noted = record {
  as_many = noted.as_many ∙ so_far.as_many;
  here = λ head place number low holds. elim (cases_eq head through) [
    | inl same ↦
        let there : slice_get (list_of chains through) place ≡ Some number = ap (λ h. slice_get (list_of chains h) place) (sym same) ∙ holds in
        noted.here place number (slice_get_within (list_of chains through) place number there) there ∙ ap (λ h. h * full + place) (sym same)
    | inr apart ↦
        noted.elsewhere number (λ other also. apart (stands_at_one_place chains disjoint number head place through other holds also).0)
        ∙ so_far.here head place number (omega (arith, low, apart)) holds
  ];
}

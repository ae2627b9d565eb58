-- One link after the other.
use Rattle.std.proofs.Common.{◌≡◌, ◌≢◌, ℕ, suc, ◌+◌, ◌-◌, ◌<◌, ◌≤◌, Bool, true, false, not, ◌&&◌, ◌==◌, List, length, refl, sym, ap, ◌∙◌, subst, arith, inl, inr}
use Rattle.std.specs.Prelude.{IsTrue, slice_index}
use Rattle.std.specs.List.{Contains}
use Rattle.std.proofs.lemmas.Bool.{cases_eq, cases_lt, and_parts, false≢true}
use Rattle.std.proofs.lemmas.Bool.Decides.{eqb_tells}
use Rattle.std.proofs.lemmas.List.{get_or_past, get_or_default}
use Rattle.sg_pool.specs.Numbers.{PoolNumbers, is_live_number, IsGivenBack}
use Rattle.sg_store.specs.steps.Cuts.{IsCut, IsCutThrough, HasLinks, IsLinkedOnce}

-- ── Words and members ──

below_by_word : (words : List ℕ) (slot number : ℕ) → slice_index words slot ≡ suc number → slot < length words
below_by_word words slot number is = elim (cases_lt slot (length words)) [
  | inl below ↦ below
  | inr past ↦ absurd (let none : slice_index words slot ≡ 0 = get_or_past words slot 0 past in omega arith)
]

word_in : (words : List ℕ) (slot number : ℕ) → slice_index words slot ≡ suc number → Contains words (suc number)
word_in words slot number is =
    let below : slot < length words = below_by_word words slot number is in
    (slot, below, get_or_default words slot (suc number) 0 below ∙ is)

word_at : (words : List ℕ) (number : ℕ) → Contains words (suc number) → (slot : ℕ) × (slice_index words slot ≡ suc number)
word_at words number (slot, below, is) = (slot, get_or_default words slot 0 (suc number) below ∙ is)

-- ── One link ──

pub cut_none : (link now : ℕ) (pool : PoolNumbers) → (link ≢ 0 → now ≢ 0) → IsCut link now pool pool
cut_none link now pool stands = record {
  places = refl;
  still = λ number live. (live, λ is. stands (λ none. let h : suc number ≡ 0 = sym is ∙ none in omega arith));
  stays = λ number live keeps. live;
  fewer = omega arith;
}

pub cut_one : (link now number : ℕ) (old new : PoolNumbers) → link ≡ suc number → now ≡ 0 → IsGivenBack old new number → IsCut link now old new
cut_one link now number old new is none given = record {
  places = given.places;
  still = λ other live.
      let both = and_parts (is_live_number old other) (not (other == number)) (sym (given.live other) ∙ live) in
      (both.0, λ same. absurd (apart other both.1 (let h : suc number ≡ suc other = sym is ∙ same in omega arith)));
  stays = λ other live keeps.
      let other_is : other ≢ number = λ same. keeps (is ∙ ap suc (sym same)) none in
      given.live other ∙ kept (is_live_number old other) (other == number) live (differs other other_is);
  fewer = omega (arith, given.count);
}
  where
    apart : (other : ℕ) → not (other == number) ≡ true → number ≡ other → ⊥
    apart other no_is same = elim (eqb_tells other number) [
      | inl yes_is ↦ false≢true (sym (ap not yes_is.0) ∙ no_is)
      | inr off ↦ off.1 (sym same)
    ]

    differs : (other : ℕ) → other ≢ number → (other == number) ≡ false
    differs other other_is = elim (eqb_tells other number) [
      | inl yes_is ↦ absurd (other_is yes_is.1)
      | inr off ↦ off.0
    ]

    kept : (a b : Bool) → a ≡ true → b ≡ false → (a && not b) ≡ true
    kept a b on off = ap (λ x. x && not b) on ∙ ap not off

-- ── All links ──

pub cut_begins : (links now : List ℕ) (pool : PoolNumbers) → IsCutThrough links now 0 pool pool
cut_begins links now pool = record {
  places = refl;
  still = λ number live. (live, λ slot below. absurd (omega arith));
  stays = λ number live keeps. live;
  fewer = omega arith;
}

pub cut_further : (links now : List ℕ) (through : ℕ) (old mid new : PoolNumbers) → IsCutThrough links now through old mid → IsCut (slice_index links through) (slice_index now through) mid new → IsCutThrough links now (through + 1) old new
cut_further links now through old mid new first later = record {
  places = later.places ∙ first.places;
  still = λ number live.
      let mine = later.still number live in
      let before = first.still number mine.0 in (
        before.0,
        λ slot below holds. elim (cases_eq slot through) [
          | inl same ↦ subst (λ s. slice_index now s ≢ 0) (sym same) (mine.1 (subst (λ s. slice_index links s ≡ suc number) same holds))
          | inr other ↦ before.1 slot (omega arith) holds
        ],
      );
  stays = λ number live keeps.
      later.stays number (first.stays number live (λ slot below holds. keeps slot (omega arith) holds)) (λ holds. keeps through (omega arith) holds);
  fewer = omega (arith, first.fewer, later.fewer);
}

-- a link that stands and is cut has a number that is live still
pub cut_is_live : (links now : List ℕ) (through : ℕ) (old mid : PoolNumbers) → HasLinks old links → IsLinkedOnce links → IsCutThrough links now through old mid → slice_index links through ≢ 0 → IsTrue (is_live_number mid (slice_index links through - 1))
cut_is_live links now through old mid linked once first some =
    let number : ℕ = slice_index links through - 1 in
    let holds : slice_index links through ≡ suc number = omega (arith, some) in
    first.stays number ((linked number).1 (word_in links through number holds)) (λ slot below same.
    let together : through ≡ slot = once through slot some (holds ∙ sym same) in
    absurd (omega arith))

pub cut_ends : (links now : List ℕ) (through : ℕ) (old new : PoolNumbers) → length links ≤ through → HasLinks old links → IsLinkedOnce links → ((slot : ℕ) → slice_index now slot ≢ 0 → slice_index now slot ≡ slice_index links slot) → IsCutThrough links now through old new → HasLinks new now
cut_ends links now through old new end linked once stays cut number = (
  λ live.
      let was = cut.still number live in
      let at = word_at links number ((linked number).0 was.0) in
      let below : at.0 < length links = below_by_word links at.0 number at.1 in
      let some : slice_index now at.0 ≢ 0 = was.1 at.0 (omega arith) at.1 in
      word_in now at.0 number (stays at.0 some ∙ at.1),
  λ has.
      let at = word_at now number has in
      let some : slice_index now at.0 ≢ 0 = λ none. let h : suc number ≡ 0 = sym at.1 ∙ none in omega arith in
      let was : slice_index links at.0 ≡ suc number = sym (stays at.0 some) ∙ at.1 in
      cut.stays number ((linked number).1 (word_in links at.0 number was)) (λ slot below holds.
      let together : slot ≡ at.0 = once slot at.0 (λ none. let h : suc number ≡ 0 = sym holds ∙ none in omega arith) (holds ∙ sym was) in
      subst (λ s. slice_index now s ≢ 0) (sym together) some),
)

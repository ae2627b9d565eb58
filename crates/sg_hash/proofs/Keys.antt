-- What a step on a key word leaves of a view, and searches put together.
use Rattle.std.proofs.Common.{◌≡◌, ℕ, ◌+◌, ◌-◌, ◌<◌, ◌≢◌, inl, inr, ⊎_elim, ◌⊎◌, Bool, true, false, cond, ◌==◌, List, [], ◌∷◌, ◌++◌, length, refl, sym, ap, ◌∙◌, subst, arith}
use Rattle.std.specs.Prelude.{slice_index}
use Rattle.std.proofs.lemmas.Bool.Decides.{nat_tests}
use Rattle.sg_words.specs.declared.race.Worker.{Worker}
use Rattle.sg_words.specs.Counts.{pairs}
use Rattle.sg_words.specs.RaceMachine.{after_see, after_link, after_key, after_key_put, after_key_word, key_word, HasOthersBefore, place_in_order}
use Rattle.sg_words.specs.steps.RaceSteps.{after_try}
use Rattle.sg_words.proofs.Uses.{found_case, pairs-snoc, pair_cases}
use Rattle.sg_hash.specs.declared.rule.Start.{Start}
use Rattle.sg_hash.specs.KeySteps.{after_look_key}
use Rattle.sg_hash.specs.steps.Searching.{SameKeys, Searched, PutAt}

-- the place of a key word, as a play reads it
pub at-word : (start : Start) (told : List ℕ) (at place : ℕ) → told ≡ length start.stock ∷ length start.links ∷ [] → at ≡ length start.links + place → at ≡ slice_index told 1 + place
at-word start told at place e is = is ∙ ap (λ l. slice_index l 1 + place) (sym e)

key-more : (p k q a : ℕ) (xs : List (ℕ × ℕ)) → 0 < pairs q a xs → 0 < pairs q a (xs ++ (p, k) ∷ [])
key-more p k q a xs has = let s = pairs-snoc q a xs (p, k) in omega arith

found-searched : (v : Worker) (p k : ℕ) → Searched v (after_key p k v)
found-searched v p k = record { told = refl; size = refl; share = refl; back = refl; spare = refl; left = refl; past = refl; seen = refl; missed = refl; made = refl; grows = λ q a has. key-more p k q a v.keys has }

put-searched : (v : Worker) (p k : ℕ) → Searched v (after_key_put p k v)
put-searched v p k = record { told = refl; size = refl; share = refl; back = refl; spare = refl; left = refl; past = refl; seen = refl; missed = refl; made = refl; grows = λ q a has. key-more p k q a v.keys has }

pub same-searched : (v : Worker) → Searched v v
same-searched v = record { told = refl; size = refl; share = refl; back = refl; spare = refl; left = refl; past = refl; seen = refl; missed = refl; made = refl; grows = λ q a has. has }

pub looked-key : (v w : Worker) (p word : ℕ) → w ≡ after_look_key p word v → Searched v w
looked-key v w p word e = subst (Searched v) (sym e) (found_case (Searched v) word v (after_key p (word - 1) v) (λ _. same-searched v) (λ _. found-searched v p (word - 1)))

pub tried-key : (v w : Worker) (p key word : ℕ) → w ≡ after_key_word p key word v → Searched v w
tried-key v w p key word e = subst (Searched v) (sym e) (found_case (Searched v) word (after_key_put p key v) (after_key p (word - 1) v) (λ _. put-searched v p key) (λ _. found-searched v p (word - 1)))

pub searched-twice : (u v w : Worker) → Searched u v → Searched v w → Searched u w
searched-twice u v w a b = record {
  told = b.told ∙ a.told;
  size = b.size ∙ a.size;
  share = b.share ∙ a.share;
  back = b.back ∙ a.back;
  spare = b.spare ∙ a.spare;
  left = b.left ∙ a.left;
  past = b.past ∙ a.past;
  seen = b.seen ∙ a.seen;
  missed = b.missed ∙ a.missed;
  made = b.made ∙ a.made;
  grows = λ q k has. b.grows q k (a.grows q k has);
}

-- another key found in each place before, still
pub others-grow : (n key j : ℕ) (v w : Worker) → ((p k : ℕ) → 0 < pairs p k v.keys → 0 < pairs p k w.keys) → HasOthersBefore n key j v → HasOthersBefore n key j w
others-grow n key j v w grows has i below = let o = has i below in (o.0, o.1, grows (place_in_order n key i) o.0 o.2)

pub tried-keys : (v w : Worker) (i t n word : ℕ) → w ≡ after_try 0 i t n word v → SameKeys v w
tried-keys v w i t n word e = subst (SameKeys v) (sym e) (found_case (SameKeys v) word (after_link 0 i t n v) (after_see i (word - 1) v) (λ _. (refl, refl)) (λ _. (refl, refl)))

-- what a probe puts and finds
pair-last : (p k : ℕ) (xs : List (ℕ × ℕ)) → 0 < pairs p k (xs ++ (p, k) ∷ [])
pair-last p k xs = let s = pairs-snoc p k xs (p, k) in pair_cases (λ n. pairs p k (xs ++ (p, k) ∷ []) ≡ pairs p k xs + n → 0 < pairs p k (xs ++ (p, k) ∷ [])) p k p k (λ _ _ e. omega arith) (λ miss _. absurd (miss refl refl)) s

pub looked-found : (v w : Worker) (p word : ℕ) → word ≢ 0 → w ≡ after_look_key p word v → (k : ℕ) × (word ≡ k + 1) × (0 < pairs p k w.keys)
looked-found v w p word full e =
    subst (λ (w : Worker). (k : ℕ) × (word ≡ k + 1) × (0 < pairs p k w.keys)) (sym e)
    (found_case (λ (w : Worker). (k : ℕ) × (word ≡ k + 1) × (0 < pairs p k w.keys)) word v (after_key p (word - 1) v) (λ z. absurd (full z)) (λ _. (word - 1, omega arith, pair-last p (word - 1) v.keys)))

pub looked-none : (v w : Worker) (p word : ℕ) → word ≡ 0 → w ≡ after_look_key p word v → w ≡ v
looked-none v w p word none e = e ∙ found_case (λ (w : Worker). w ≡ v) word v (after_key p (word - 1) v) (λ _. refl) (λ full. absurd (full none))

pub tried-found : (v w : Worker) (p key word now : ℕ) → now ≡ key_word key word → w ≡ after_key_word p key word v → (k : ℕ) × (now ≡ k + 1) × (0 < pairs p k w.keys)
tried-found v w p key word now e e' =
    subst (λ now. (k : ℕ) × (now ≡ k + 1) × (0 < pairs p k w.keys)) (sym e)
    (subst (λ (w : Worker). (k : ℕ) × (key_word key word ≡ k + 1) × (0 < pairs p k w.keys)) (sym e') (go (word == 0) refl))
  where
    go : (b : Bool) → (word == 0) ≡ b → (k : ℕ) × (cond b (key + 1) word ≡ k + 1) × (0 < pairs p k (cond b (after_key_put p key v) (after_key p (word - 1) v)).keys)
    go true e = (key, refl, pair-last p key v.keys)
    go false e = (word - 1, (let h : word ≢ 0 = (λ z. grind (arith, nat_tests)) in omega arith), pair-last p (word - 1) v.keys)

pub tried-put : (v w : Worker) (p key word now : ℕ) → now ≡ key_word key word → w ≡ after_key_word p key word v → PutAt key now v w
tried-put v w p key word now e e' =
    subst (λ now. PutAt key now v w) (sym e) (subst (PutAt key (key_word key word) v) (sym e') (go (word == 0)))
  where
    go : (b : Bool) → PutAt key (cond b (key + 1) word) v (cond b (after_key_put p key v) (after_key p (word - 1) v))
    go true = inr (refl, refl)
    go false = inl refl

pub looked-put : (v w : Worker) (p key word : ℕ) → w ≡ after_look_key p word v → PutAt key word v w
looked-put v w p key word e = subst (PutAt key word v) (sym e) (found_case (PutAt key word v) word v (after_key p (word - 1) v) (λ _. inl refl) (λ _. inl refl))

-- the word that stands there after an exchange
pub key-now : (key word : ℕ) {now : ℕ} → ((word ≡ 0) × (now ≡ key + 1)) ⊎ ((word ≢ 0) × (now ≡ word)) → now ≡ key_word key word
key-now key word {now} h = go (word == 0) refl
  where
    go : (b : Bool) → (word == 0) ≡ b → now ≡ cond b (key + 1) word
    go true e = ⊎_elim (λ a. a.1) (λ b. absurd (b.0 (grind (arith, nat_tests)))) h
    go false e = ⊎_elim (λ a. absurd (let z = a.0 in let f : word ≢ 0 = (λ z. grind (arith, nat_tests)) in f z)) (λ b. b.1) h

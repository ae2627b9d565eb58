-- Lists cut into lists of 65,536: where a place of the whole is, and how cut lists go together.
use Rattle.std.proofs.Common.{◌≡◌, ℕ, zero, suc, ◌+◌, ◌-◌, ◌/◌, ◌%◌, ◌<◌, ◌≤◌, List, [], ◌∷◌, ◌++◌, length, length-append, append_assoc, refl, sym, ap, ◌∙◌, subst, arith}
use Rattle.std.specs.Prelude.{slice_index, slice_index_or}
use Rattle.std.specs.List.{concat}
use Rattle.std.proofs.lemmas.List.{get_or_append_left, get_or-append_right}
use native.Mathlib.Decide.{dec_le}
use mathlib.Core.Logic.{dite}
use Rattle.sg_accum.specs.Parts.{many_at, AreCut}

-- place c of the whole is a place of list c / 65536
pub record Found (lists : List (List ℕ)) (c : ℕ) : Type 0 where
  pub within : c / 65536 < length lists
  pub inside : c % 65536 < many_at lists (c / 65536)
  pub value : slice_index (concat lists) c ≡ slice_index (slice_index_or lists (c / 65536) []) (c % 65536)

found-first : (v : List ℕ) (vs : List (List ℕ)) (c : ℕ) → c < length v → c < 65536 → Found (v ∷ vs) c
found-first v vs c below small =
    let first : c / 65536 ≡ 0 = omega arith in
    let same : c % 65536 ≡ c = omega arith in
    record {
      within = omega (arith, first);
      inside = subst (λ n. c % 65536 < many_at (v ∷ vs) n) (sym first) (subst (λ n. n < length v) (sym same) below);
      value = get_or_append_left v (concat vs) 0 c below ∙ ap (slice_index v) (sym same) ∙ ap (λ n. slice_index (slice_index_or (v ∷ vs) n []) (c % 65536)) (sym first);
    }

found-later : (v : List ℕ) (vs : List (List ℕ)) (c : ℕ) → length v ≡ 65536 → 65536 ≤ c → Found vs (c - 65536) → Found (v ∷ vs) c
found-later v vs c full past f =
    let next : c / 65536 ≡ suc ((c - 65536) / 65536) = omega arith in
    let same : c % 65536 ≡ (c - 65536) % 65536 = omega arith in
    record {
      within = omega (arith, next, f.within);
      inside = subst (λ n. c % 65536 < many_at (v ∷ vs) n) (sym next) (subst (λ n. n < many_at vs ((c - 65536) / 65536)) (sym same) f.inside);
      value = get_or-append_right v (concat vs) 65536 c 0 full past ∙ f.value ∙ ap (slice_index (slice_index_or vs ((c - 65536) / 65536) [])) (sym same)
          ∙ ap (λ n. slice_index (slice_index_or (v ∷ vs) n []) (c % 65536)) (sym next);
    }

cut-rest : (v : List ℕ) (vs : List (List ℕ)) → AreCut (v ∷ vs) → AreCut vs
cut-rest v vs cut k below =
    let h = cut (suc k) (omega arith) in
    (h.0, h.1, λ more. h.2 (omega arith))

pub some_list : (vs : List (List ℕ)) → 0 < length (concat vs) → 0 < length vs
some_list [] some = absurd (omega arith)
some_list (v ∷ vs) some = omega arith

pub found : (lists : List (List ℕ)) (c : ℕ) → AreCut lists → c < length (concat lists) → Found lists c
found [] c cut below = absurd (omega arith)
found (v ∷ vs) c cut below =
    let most : length v ≤ 65536 = (cut 0 (omega arith)).1 in
    let long : length (v ++ concat vs) ≡ length v + length (concat vs) = length-append v (concat vs) in
    dite (dec_le (suc c) (length v)) (λ here. found-first v vs c here (omega arith)) (λ past.
    (let left : 0 < length (concat vs) = omega arith in
    let more : 0 < length vs = some_list vs left in
    let full : length v ≡ 65536 = (cut 0 (omega arith)).2 (omega arith) in
    found-later v vs c full (omega arith) (found vs (c - 65536) (cut-rest v vs cut) (omega arith))))

-- lists of the same lengths, one after the other
pub same_lengths : (vs ws : List (List ℕ)) → length ws ≡ length vs → ((k : ℕ) → k < length vs → many_at ws k ≡ many_at vs k) → length (concat ws) ≡ length (concat vs)
same_lengths [] [] many each = refl
same_lengths [] (w ∷ ws) many each = absurd (omega arith)
same_lengths (v ∷ vs) [] many each = absurd (omega arith)
same_lengths (v ∷ vs) (w ∷ ws) many each =
    let rest = same_lengths vs ws (omega arith) (λ k below. each (suc k) (omega arith)) in
    let first = each 0 (omega arith) in
    omega (arith, length-append v (concat vs), length-append w (concat ws), rest, first)

pub same_cut : (vs ws : List (List ℕ)) → length ws ≡ length vs → ((k : ℕ) → k < length vs → many_at ws k ≡ many_at vs k) → AreCut vs → AreCut ws
same_cut vs ws many each cut k below =
    let h = cut k (omega arith) in
    let same = each k (omega arith) in
    (omega (arith, h.0), omega (arith, h.1), λ more. same ∙ h.2 (omega arith))

-- cut lists before others, where the first are all full
all_full : (v : List ℕ) (vs : List (List ℕ)) → AreCut (v ∷ vs) → length (concat (v ∷ vs)) % 65536 ≡ 0 → length v ≡ 65536
all_full v [] cut even =
    let h = cut 0 (omega arith) in
    let long = length-append v [] in
    omega (arith, h.0, h.1, long, even)
all_full v (w ∷ vs) cut even = (cut 0 (omega arith)).2 (omega arith)

cut-cons : (v : List ℕ) (vs : List (List ℕ)) → length v ≡ 65536 → AreCut vs → (k : ℕ) → k < length (v ∷ vs)
    → (0 < many_at (v ∷ vs) k) × (many_at (v ∷ vs) k ≤ 65536) × (k + 1 < length (v ∷ vs) → many_at (v ∷ vs) k ≡ 65536)
cut-cons v vs full cut zero below = (omega arith, omega arith, λ more. full)
cut-cons v vs full cut (suc k) below =
    let h = cut k (omega arith) in
    (h.0, h.1, λ more. h.2 (omega arith))

pub cut-append : (vs ws : List (List ℕ)) → AreCut vs → AreCut ws → length (concat vs) % 65536 ≡ 0 → AreCut (vs ++ ws)
cut-append [] ws cut others even = others
cut-append (v ∷ vs) ws cut others even =
    let full = all_full v vs cut even in
    let long = length-append v (concat vs) in
    let rest : length (concat vs) % 65536 ≡ 0 = omega (arith, full, long, even) in
    cut-cons v (vs ++ ws) full (cut-append vs ws (cut-rest v vs cut) others rest)

pub cut-one : (v : List ℕ) → 0 < length v → length v ≤ 65536 → AreCut (v ∷ [])
cut-one v some few = only v some few
  where
    only : (v : List ℕ) → 0 < length v → length v ≤ 65536 → (k : ℕ) → k < 1 → (0 < many_at (v ∷ []) k) × (many_at (v ∷ []) k ≤ 65536) × (k + 1 < 1 → many_at (v ∷ []) k ≡ 65536)
    only v some few zero below = (some, few, λ more. absurd (omega arith))
    only v some few (suc k) below = absurd (omega arith)

-- joined end to end
pub concat-append : (vs ws : List (List ℕ)) → concat (vs ++ ws) ≡ concat vs ++ concat ws
concat-append [] ws = refl
concat-append (v ∷ vs) ws = ap (λ l. v ++ l) (concat-append vs ws) ∙ sym (append_assoc v (concat vs) (concat ws))

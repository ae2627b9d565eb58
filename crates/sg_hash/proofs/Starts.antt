-- The words of a new pass are the start of a race, with its first worker.
use Rattle.std.proofs.Common.{◌≡◌, ℕ, zero, suc, ◌+◌, ◌≤◌, inl, append_assoc, List, [], ◌∷◌, ◌++◌, length, take, drop, refl, sym, ap, ◌∙◌, arith}
use Rattle.std.proofs.lemmas.List.{length-append}
use Rattle.std.proofs.Math.Seq.{take-append_seam, drop-append_seam}
use Rattle.sg_words.specs.RaceMachine.{opening_race}
use Rattle.sg_words.specs.RaceInvariant.{Sound}
use Rattle.sg_words.proofs.Uses.{starts_kept, kept-first}
use Rattle.sg_hash.specs.declared.rule.Start.{Start}
use Rattle.sg_hash.specs.HashRace.{setting_of, Racing, first_worker}
use Rattle.sg_hash.specs.Tables.{IsTable}
use Rattle.sg_hash.proofs.Moves.{as_words}

sound : (start : Start) → IsTable start.keys → Sound (setting_of start)
sound start table = record {
  probed = λ k j i under at before. table k j under at i before;
  hanging = record { by_slot = λ i _. inl refl; by_bit = λ b _. inl refl; by_length = λ q _. inl refl };
  exchanged = λ a x y. refl;
}

pub opened : (start : Start) (words : List ℕ) → IsTable start.keys → length start.keys ≡ length start.links → words ≡ start.links ++ (start.keys ++ 0 ∷ []) → Racing start words (first_worker start ∷ [])
opened start words table many is =
    let n = length start.links in
    let behind : drop n words ≡ start.keys ++ 0 ∷ [] = ap (drop n) is ∙ drop-append_seam start.links (start.keys ++ 0 ∷ []) in
    let size = length-append start.links (start.keys ++ 0 ∷ []) in
    let size' = length-append start.keys (0 ∷ []) in
    record {
      wide = ap length is ∙ size ∙ (let h : n + length (start.keys ++ 0 ∷ []) ≡ n + (n + 1) = omega arith in h);
      kept = as_words start words (first_worker start ∷ []) start.links start.keys (0 ∷ [])
          (ap (take n) is ∙ take-append_seam start.links (start.keys ++ 0 ∷ []))
          (ap (take n) behind ∙ ap (λ k. take k (start.keys ++ 0 ∷ [])) (sym many) ∙ take-append_seam start.keys (0 ∷ []))
          (ap (drop n) behind ∙ ap (λ k. drop k (start.keys ++ 0 ∷ [])) (sym many) ∙ drop-append_seam start.keys (0 ∷ []))
          (kept-first (setting_of start) (opening_race (setting_of start)) refl (starts_kept (setting_of start) (sound start table)));
    }

pub all-words : (links keys words : List ℕ) (i : ℕ) → words ≡ links ++ take i keys → length keys ≤ i → words ++ 0 ∷ [] ≡ links ++ (keys ++ 0 ∷ [])
all-words links keys words i e all = ap (λ l. l ++ 0 ∷ []) (e ∙ ap (λ l. links ++ l) (whole keys i all)) ∙ append_assoc links keys (0 ∷ [])
  where
    whole : (keys : List ℕ) (i : ℕ) → length keys ≤ i → take i keys ≡ keys
    whole [] zero all = refl
    whole [] (suc i) all = refl
    whole (x ∷ xs) zero all = absurd (omega arith)
    whole (x ∷ xs) (suc i) all = ap (λ l. x ∷ l) (whole xs i (omega arith))

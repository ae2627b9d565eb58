-- What positional words ask for, by the first of them and those after it.
use Rattle.std.proofs.Common.{◌≡◌, ℕ, ◌-◌, ◌≤◌, Bool, true, List, [], ◌∷◌, length, map, take, drop, get_or, Option, Result, refl, sym, ap, ◌∙◌, subst, arith, Bor}
use Rattle.std.specs.Prelude.{if◌then◌else◌}
use Rattle.std.proofs.lemmas.List.{take_all}
use Rattle.sg_words.specs.declared.memory.Stop.{Stop}
use Rattle.sg_words.specs.Answers.{AnswersOption}
use Rattle.sg_words.specs.Options.{only_if}
use Rattle.sparsegrid.specs.declared.words.Mode.{Mode}
use Rattle.sparsegrid.specs.declared.words.BadWords.{BadWords}
use Rattle.sparsegrid.specs.declared.words.Words.{Words}
use Rattle.sparsegrid.specs.Words as spec
use Rattle.sparsegrid.specs.Words.{Asked}

pub rest_whole : {A : Type 0} (xs : List A) → take (length xs - 1) (drop 1 xs) ≡ drop 1 xs
rest_whole [] = refl
rest_whole (x ∷ xs) = take_all (length (x ∷ xs) - 1) xs (omega arith)

abbrev Texts : Type 0
Texts = List (Bor (List ℕ))

abbrev told : Texts → List (List ℕ)
told words = map (λ word. word.now) words

-- what they ask for, if a snapshot may be given so
abbrev first_asked : ℕ → Mode → Option (List ℕ) → List ℕ → List (List ℕ) → Option Asked
first_asked workers mode from first words = if spec.is_gen mode then spec.number_asked workers mode first words else spec.file_asked workers mode from first words

pub asked_first : (workers : ℕ) (mode : Mode) (from : Option (List ℕ)) (positionals : Texts) (other : Bor (List ℕ)) (first : List ℕ) (words : Texts) (result : Result Words (Stop BadWords))
    → AnswersOption spec.asked_by result (first_asked workers mode from first (told words)) → first ≡ (get_or positionals 0 other).now → words ≡ drop 1 positionals
    → 1 ≤ length positionals → spec.is_good_from mode from ≡ true → AnswersOption spec.asked_by result (spec.asked_of workers mode from (told positionals))
asked_first workers mode from [] other first words result asked one rest some good = absurd (omega (arith, some))
asked_first workers mode from (x ∷ xs) other first words result asked one rest some good =
    subst (λ (o : Option Asked). AnswersOption spec.asked_by result o) same asked
  where
    same : first_asked workers mode from first (told words) ≡ spec.asked_of workers mode from (told (x ∷ xs))
    same =
        ap (λ (f : List ℕ). first_asked workers mode from f (told words)) one ∙ ap (λ (ws : Texts). first_asked workers mode from x.now (told ws)) rest
        ∙ sym (ap (λ (b : Bool). only_if b (first_asked workers mode from x.now (told xs))) good)

-- One extension after another, and what index words keep.
use Rattle.std.proofs.Common.{◌≡◌, ℕ, ◌+◌, ◌-◌, ◌<◌, ◌≤◌, List, [], ◌∷◌, length, map, take, drop, get_or, All, refl, sym, ap, ◌∙◌, arith, Option}
use Rattle.std.proofs.lemmas.List.{take_all}
use Rattle.std.proofs.lemmas.List.Elements.{All-head, All-tail}
use Rattle.sg_layout.specs.declared.shape.Shape.{Shape}
use Rattle.sg_ir.specs.declared.code.Inst.{Inst}
use Rattle.sg_ir.specs.declared.names.Names.{Names}
use Rattle.sg_ir.specs.Runs.{Seen, Place, Moved, runs}
use Rattle.sg_ir.specs.Trimmed.{Ways}
use Rattle.sg_ir.specs.Trails.{ways_after}
use Rattle.sg_ir.specs.Emits.{From, root_in, root_along, Keeps, NamesGrow, Extends, IsQuiet, Computes, Reaches}

module _ (shapes : List Shape) where
  pub extends-same : (names : Names) (block : List Inst) → Extends shapes names names block block
  extends-same names block = record {
    grows = record { regs = omega arith; places = omega arith };
    ways = λ ways p below. refl;
    keeps = λ seen same start. record { regs = λ r below. refl; places = λ p below. refl; roots = λ p below. refl; vars = refl; writes = refl; wants = refl };
  }

  pub extends-trans : (old mid new : Names) (a b c : List Inst) → Extends shapes old mid a b → Extends shapes mid new b c → Extends shapes old new a c
  extends-trans old mid new a b c first second =
      let one = first.grows in
      let two = second.grows in
      record {
        grows = record { regs = omega arith; places = omega arith };
        ways = λ ways p below. second.ways ways p (omega arith) ∙ first.ways ways p below;
        keeps = λ seen same start.
            let before = first.keeps seen same start in
            let after = second.keeps seen same start in
            record {
              regs = λ r below. after.regs r (omega arith) ∙ before.regs r below;
              places = λ p below. after.places p (omega arith) ∙ before.places p below;
              roots = λ p below. after.roots p (omega arith) ∙ before.roots p below;
              vars = after.vars ∙ before.vars;
              writes = after.writes ∙ before.writes;
              wants = after.wants ∙ before.wants;
            };
      }

  pub quiet-trans : (a b c : List Inst) → IsQuiet shapes a b → IsQuiet shapes b c → IsQuiet shapes a c
  quiet-trans a b c first second = λ seen same start. second seen same start ∙ first seen same start

  -- what is reached or computed after more was emitted, told by what was there before it
  pub reaches-then : (f g : Seen → Moved → Option Place) (r s : From) (to : ℕ) (old mid new : Names) (a b c : List Inst) → Extends shapes old mid a b → IsQuiet shapes a b →
      Reaches shapes g s to mid new b c → ((seen : Seen) → seen.shapes ≡ shapes → (start : Moved) → g seen (runs seen b start) ≡ f seen (runs seen a start)) →
      ((seen : Seen) → seen.shapes ≡ shapes → (start : Moved) → root_in s (runs seen b start) ≡ root_in r (runs seen a start)) →
      ((ways : Ways) → root_along s (ways_after b ways) ≡ root_along r (ways_after a ways)) → Reaches shapes f r to old new a c
  reaches-then f g r s to old mid new a b c extends quiet second same_place same_root same_way = record {
    extends = extends-trans old mid new a b c extends second.extends;
    quiet = quiet-trans a b c quiet second.quiet;
    named = second.named;
    value = λ seen same start. second.value seen same start ∙ same_place seen same start;
    rooted = λ seen same start. second.rooted seen same start ∙ same_root seen same start;
    comes = λ ways. second.comes ways ∙ same_way ways;
  }

  pub computes-then : (f g : Seen → Moved → ℕ) (to : ℕ) (old mid new : Names) (a b c : List Inst) → Extends shapes old mid a b → IsQuiet shapes a b →
      Computes shapes g to mid new b c → ((seen : Seen) → seen.shapes ≡ shapes → (start : Moved) → g seen (runs seen b start) ≡ f seen (runs seen a start)) → Computes shapes f to old new a c
  computes-then f g to old mid new a b c extends quiet second same_word = record {
    extends = extends-trans old mid new a b c extends second.extends;
    quiet = quiet-trans a b c quiet second.quiet;
    named = second.named;
    value = λ seen same start. second.value seen same start ∙ same_word seen same start;
  }

-- the words of registers that have a name are kept
pub words-kept : (r_end p_end : ℕ) (before after : Moved) (index : List ℕ) → All (λ r. r < r_end) index → Keeps r_end p_end before after → map after.regs index ≡ map before.regs index
words-kept r_end p_end before after [] named keeps = refl
words-kept r_end p_end before after (r ∷ index) named keeps =
    let P : ℕ → Type 0 = λ r. r < r_end in
    let here : after.regs r ≡ before.regs r = keeps.regs r (All-head P r index named) in
    let rest : map after.regs index ≡ map before.regs index = words-kept r_end p_end before after index (All-tail P r index named) keeps in
    ap (λ word. word ∷ map after.regs index) here ∙ ap (λ words. before.regs r ∷ words) rest

-- a list that isn't empty: its first, and what is left of it
pub first_rest : {A : Type 0} (xs : List A) (default : A) → 1 ≤ length xs → xs ≡ get_or xs 0 default ∷ drop 1 xs
first_rest [] default some = absurd (omega arith)
first_rest (x ∷ xs) default some = refl

pub rest-whole : {A : Type 0} (xs : List A) → take (length xs - 1) (drop 1 xs) ≡ drop 1 xs
rest-whole [] = refl
rest-whole (x ∷ xs) = take_all (length (x ∷ xs) - 1) xs (omega arith)

pub rest-shorter : {A : Type 0} (xs : List A) → 1 ≤ length xs → length (drop 1 xs) + 1 ≡ length xs
rest-shorter [] some = absurd (omega arith)
rest-shorter (x ∷ xs) some = omega arith

pub all_rest : {A : Type 0} (P : A → Type 0) (xs : List A) → All P xs → All P (drop 1 xs)
all_rest P [] all = all
all_rest P (x ∷ xs) all = All-tail P x xs all

pub empty_from : {A : Type 0} (xs : List A) → length xs < 1 → xs ≡ []
empty_from [] none = refl
empty_from (x ∷ xs) none = absurd (omega arith)

-- named registers stay named
pub all_named : (old new : Names) (xs : List ℕ) → NamesGrow old new → All (λ r. r < length old.regs) xs → All (λ r. r < length new.regs) xs
all_named old new xs grows all = λ k d below. let g = grows.regs in let h : get_or xs k d < length old.regs = all k d below in omega arith

-- the first of a list that was read there, and what is left
pub split_first : {A : Type 0} (xs : List A) (x : A) → 1 ≤ length xs → x ≡ get_or xs 0 x → xs ≡ x ∷ drop 1 xs
split_first xs x some here = first_rest xs x some ∙ ap (λ y. y ∷ drop 1 xs) (sym here)

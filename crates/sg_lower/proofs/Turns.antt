-- Turns of loops over lists.
use Rattle.std.proofs.Common.{◌≡◌, ℕ, zero, suc, ◌+◌, ◌<◌, Bool, true, List, [], ◌∷◌, ◌++◌, length, get_or, take, All, sym, ap, ◌∙◌, arith}
use Rattle.std.specs.List.{list_all}
use Rattle.std.proofs.lemmas.Bool.{and_parts}
use Rattle.std.proofs.lemmas.List.{take_more}
use Rattle.std.proofs.lemmas.List.Elements.{All-push, All-weaker}
use Rattle.sg_ir.specs.declared.names.Names.{Names}
use Rattle.sg_ir.specs.Emits.{NamesGrow}

-- the item of a turn passes a test that all pass
pub item_holds : {X : Type 0} (p : X → Bool) (xs : List X) (i : ℕ) (x : X) → i < length xs → x ≡ get_or xs i x → list_all p xs ≡ true → p x ≡ true
item_holds p [] i x below is h = absurd (omega (arith, below))
item_holds p (y ∷ xs) zero x below is h = ap p is ∙ (and_parts (p y) (list_all p xs) h).0
item_holds p (y ∷ xs) (suc i) x below is h = item_holds p xs i x (omega (arith, below)) is (and_parts (p y) (list_all p xs) h).1

-- one more item is done
pub take_item : {X : Type 0} (xs : List X) (i : ℕ) (x : X) → i < length xs → x ≡ get_or xs i x → take (i + 1) xs ≡ take i xs ++ x ∷ []
take_item xs i x below is = take_more xs i x below ∙ ap (λ y. take i xs ++ y ∷ []) (sym is)

pub grows-trans : (old mid new : Names) → NamesGrow old mid → NamesGrow mid new → NamesGrow old new
grows-trans old mid new a b = record { regs = omega (arith, a.regs, b.regs); places = omega (arith, a.places, b.places) }

pub named-more : (mid new : Names) (regs : List ℕ) (to : ℕ) → NamesGrow mid new → to < length new.regs → All (λ r. r < length mid.regs) regs → All (λ r. r < length new.regs) (regs ++ to ∷ [])
named-more mid new regs to grows below all =
    All-push (λ r. r < length new.regs) regs to (All-weaker (λ r. r < length mid.regs) (λ r. r < length new.regs) (λ r l. omega (arith, l, grows.regs)) regs all) below

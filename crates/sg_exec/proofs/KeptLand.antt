-- The writes that workers keep land list after list.
use Rattle.std.proofs.Common.{◌≡◌, List, [], ◌∷◌, ◌++◌, map, take, drop, length, get_or, Vec, refl, ap, ◌∙◌, subst, arith}
use Rattle.std.specs.Prelude.{IfSome}
use Rattle.std.specs.List.{All}
use Rattle.std.specs.declared.alloc.Global.{Global}
use Rattle.std.proofs.lemmas.List.{take-append-drop}
use Rattle.std.proofs.lemmas.List.Elements.{All-nil, All-cons, All-head, All-tail}
use Rattle.sg_flat.specs.declared.effects.Write.{Write}
use Rattle.sg_store.specs.StoreWords.{StoreWords}
use Rattle.sg_exec.specs.declared.lanes.cell_write.CellWrite.{CellWrite}
use Rattle.sg_exec.specs.steps.Machines.{AreCells, IsCellOf}
use Rattle.sg_exec.specs.steps.Landing.{landing, Lands}
use Rattle.sg_exec.specs.steps.Made.{HaveTrees}
use Rattle.sg_exec.specs.steps.Puts.{in_lists}
use Rattle.sg_exec.proofs.StoresLanded.{lands_more, lands_nothing}
use Rattle.sg_exec.proofs.TreesKept.{trees_then}

-- the cells of a front and a back are those of each
module _ {X : Type 0} (P : X → Type 0) where
  all_front : (xs ys : List X) → All P (xs ++ ys) → All P xs
  all_front [] ys all = All-nil P
  all_front (x ∷ xs) ys all = All-cons P x xs (All-head P x (xs ++ ys) all) (all_front xs ys (All-tail P x (xs ++ ys) all))

  all_back : (xs ys : List X) → All P (xs ++ ys) → All P ys
  all_back [] ys all = all
  all_back (x ∷ xs) ys all = all_back xs ys (All-tail P x (xs ++ ys) all)

pub cells_front : (stores : List StoreWords) (xs ys : List CellWrite) → AreCells stores (xs ++ ys) → AreCells stores xs
cells_front stores xs ys all = all_front (λ (write : CellWrite). IfSome write.cell (IsCellOf stores write.layout)) xs ys all

pub cells_back : (stores : List StoreWords) (xs ys : List CellWrite) → AreCells stores (xs ++ ys) → AreCells stores ys
cells_back stores xs ys all = all_back (λ (write : CellWrite). IfSome write.cell (IsCellOf stores write.layout)) xs ys all

-- a front and a back of what a function gives come from a front and a back
module _ (f : Write → CellWrite) where
  front_is : (xs ys : List CellWrite) (made : List Write) → xs ++ ys ≡ map f made → xs ≡ map f (take (length xs) made)
  front_is [] ys made is = refl
  front_is (x ∷ xs) ys [] is = absurd (cc)
  front_is (x ∷ xs) ys (m ∷ made) is =
      ap (λ (w : CellWrite). w ∷ xs) (ap (λ (ws : List CellWrite). get_or ws 0 x) is)
      ∙ ap (λ (ws : List CellWrite). f m ∷ ws) (front_is xs ys made (ap (λ (ws : List CellWrite). drop 1 ws) is))

  back_is : (xs ys : List CellWrite) (made : List Write) → xs ++ ys ≡ map f made → ys ≡ map f (drop (length xs) made)
  back_is [] ys made is = is
  back_is (x ∷ xs) ys [] is = absurd (cc)
  back_is (x ∷ xs) ys (m ∷ made) is = back_is xs ys made (ap (λ (ws : List CellWrite). drop 1 ws) is)

-- a front lands, and then the back
pub land_both : (base olds mids news : List StoreWords) (xs ys : List CellWrite) (made : List Write)
    → HaveTrees base olds → HaveTrees olds mids → xs ++ ys ≡ map (landing base) made
    → ((ws : List Write) → HaveTrees base olds → xs ≡ map (landing base) ws → Lands olds mids ws)
    → ((ws : List Write) → HaveTrees base mids → ys ≡ map (landing base) ws → Lands mids news ws)
    → Lands olds news made
land_both base olds mids news xs ys made here kept is first second =
    subst (λ (ws : List Write). Lands olds news ws) (take-append-drop (length xs) made)
    (lands_more olds mids news (take (length xs) made) (drop (length xs) made)
    (first (take (length xs) made) here (front_is (landing base) xs ys made is))
    (second (drop (length xs) made) (trees_then base olds mids here kept) (back_is (landing base) xs ys made is)))

-- no lists land nothing
pub land_none : (base olds : List StoreWords) (lists : List (Vec CellWrite Global)) (made : List Write) → length lists ≡ 0 → in_lists lists ≡ map (landing base) made → Lands olds olds made
land_none base olds [] [] none is = lands_nothing olds
land_none base olds [] (m ∷ made) none is = absurd (cc)
land_none base olds (list ∷ lists) made none is = absurd (omega arith)

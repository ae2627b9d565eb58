-- The last own write to each field, one write more.
use Rattle.std.proofs.Common.{◌≡◌, ℕ, ◌+◌, ◌<◌, Bool, true, false, ◌&&◌, ◌==◌, cond, List, [], ◌∷◌, ◌++◌, take, drop, length, get_or, find, Some, Result, Ok, Err, refl, sym, ap, ◌∙◌, add-one, subst}
use Rattle.std.specs.Prelude.{slice_set, IfSome, OnOk, OnErr}
use Rattle.std.proofs.lemmas.List.{reverse-append, set_split}
use Rattle.std.proofs.lemmas.Bool.{eqb-true, and_parts, and_from, eq-eqb}
use Rattle.std.proofs.lemmas.List.Elements.{All-append, All-cons, All-nil}
use Rattle.sg_words.specs.declared.memory.Memory.{Memory}
use Rattle.sg_store.specs.StoreWords.{StoreWords}
use Rattle.sg_ir.specs.Runs.{is_own}
use Rattle.sg_exec.specs.declared.lanes.cell_write.CellWrite.{CellWrite}
use Rattle.sg_exec.specs.steps.Written.{is_own_to, own_write, is_same_field, replaced, IsLatest}
use Rattle.sg_exec.specs.steps.Machines.{AreCells, IsCellOf}
use Rattle.sg_exec.proofs.Going.{drop_item}

-- the last own write, with one write more after
own_push : (layout place : ℕ) (writes : List CellWrite) (write : CellWrite) → own_write layout place (writes ++ write ∷ []) ≡ cond (is_own_to layout place write) (Some write) (own_write layout place writes)
own_push layout place writes write = ap (find (is_own_to layout place)) (reverse-append writes (write ∷ []))

and_no : (a b : Bool) → b ≡ false → (a && b) ≡ false
and_no true b h = h
and_no false b h = refl

and_yes : (a b : Bool) → a ≡ true → (a && b) ≡ false → b ≡ false
and_yes true b h e = e
and_yes false b h e = absurd (cc)

-- a write to the field of a write to another field than this one is not the one looked for
other_field : (layout place : ℕ) (write other : CellWrite) → is_same_field other write ≡ true → is_own write.way ≡ true → is_own_to layout place write ≡ false → is_own_to layout place other ≡ false
other_field layout place write other same own test =
    let parts = and_parts (other.layout == write.layout) (other.place == write.place) same in
    let rest : ((write.layout == layout) && (write.place == place)) ≡ false = and_yes (is_own write.way) ((write.layout == layout) && (write.place == place)) own test in
    ap (λ (l : ℕ). is_own other.way && ((l == layout) && (other.place == place))) (eqb-true other.layout write.layout parts.0)
    ∙ ap (λ (p : ℕ). is_own other.way && ((write.layout == layout) && (p == place))) (eqb-true other.place write.place parts.1)
    ∙ and_no (is_own other.way) ((write.layout == layout) && (write.place == place)) rest

-- two own writes to one field
same_field : (layout place : ℕ) (write other : CellWrite) → is_own_to layout place write ≡ true → is_own_to layout place other ≡ true → is_same_field other write ≡ true
same_field layout place write other w o =
    let a = (and_parts (is_own write.way) ((write.layout == layout) && (write.place == place)) w).1 in
    let b = (and_parts (is_own other.way) ((other.layout == layout) && (other.place == place)) o).1 in
    let ap1 = and_parts (write.layout == layout) (write.place == place) a in
    let bp1 = and_parts (other.layout == layout) (other.place == place) b in
    and_from (other.layout == write.layout) (other.place == write.place)
    (eq-eqb other.layout write.layout (eqb-true other.layout layout bp1.0 ∙ sym (eqb-true write.layout layout ap1.0)))
    (eq-eqb other.place write.place (eqb-true other.place place bp1.1 ∙ sym (eqb-true write.place place ap1.1)))

find_replaced : (layout place : ℕ) (write : CellWrite) (own : List CellWrite) → is_own write.way ≡ true
    → find (is_own_to layout place) (replaced write own) ≡ cond (is_own_to layout place write) (Some write) (find (is_own_to layout place) own)
find_replaced layout place write [] is = refl
find_replaced layout place write (other ∷ own) is =
    go (is_same_field other write) refl (is_own_to layout place write) refl (is_own_to layout place other) refl (find_replaced layout place write own is)
  where
    go : (same : Bool) → is_same_field other write ≡ same → (mine : Bool) → is_own_to layout place write ≡ mine → (its : Bool) → is_own_to layout place other ≡ its
        → find (is_own_to layout place) (replaced write own) ≡ cond mine (Some write) (find (is_own_to layout place) own)
        → find (is_own_to layout place) (cond same (write ∷ own) (other ∷ replaced write own)) ≡ cond mine (Some write) (cond its (Some other) (find (is_own_to layout place) own))
    go true e true m its i ih = rw m refl
    go true e false m true i ih = absurd (cc (other_field layout place write other e is m))
    go true e false m false i ih = rw m refl
    go false e true m true i ih = absurd (cc (same_field layout place write other m i))
    go false e true m false i ih = rw i ih
    go false e false m true i ih = rw i refl
    go false e false m false i ih = rw i ih

-- an own write more
pub latest_own : (own own' writes writes' : List CellWrite) (write : CellWrite) → IsLatest own writes → is_own write.way ≡ true → own' ≡ replaced write own → writes' ≡ writes ++ write ∷ [] → IsLatest own' writes'
latest_own own own' writes writes' write latest is o w = λ layout place.
    ap (find (is_own_to layout place)) o ∙ find_replaced layout place write own is
    ∙ ap (cond (is_own_to layout place write) (Some write)) (latest layout place)
    ∙ sym (ap (own_write layout place) w ∙ own_push layout place writes write)

-- ---- the search for the place

pub replaced_here : (write : CellWrite) (own : List CellWrite) (k : ℕ) (other : CellWrite) → k < length own → other ≡ get_or own k other → is_same_field other write ≡ true
    → take k own ++ replaced write (drop k own) ≡ take k own ++ write ∷ drop (k + 1) own
replaced_here write own k other below at test =
    ap (λ (rest : List CellWrite). take k own ++ replaced write rest) (drop_item own k other below at) ∙ (rw test refl)

pub set_here : (own : List CellWrite) (k : ℕ) (write : CellWrite) → k < length own → slice_set own k write ≡ take k own ++ write ∷ drop (k + 1) own
set_here own k write below = rw add-one (set_split own k write below)

pub cells_more : (stores : List StoreWords) (writes writes' : List CellWrite) (write : CellWrite) → AreCells stores writes → IfSome write.cell (IsCellOf stores write.layout) → writes' ≡ writes ++ write ∷ [] → AreCells stores writes'
cells_more stores writes writes' write old new grew =
    subst (AreCells stores) (sym grew)
    (All-append (λ (w : CellWrite). IfSome w.cell (IsCellOf stores w.layout)) writes (write ∷ []) old (All-cons (λ (w : CellWrite). IfSome w.cell (IsCellOf stores w.layout)) write [] new (All-nil _)))

pub cells_after : (stores : List StoreWords) (writes writes' : List CellWrite) (write : CellWrite) (result : Result Unit Memory) → AreCells stores writes → IfSome write.cell (IsCellOf stores write.layout)
    → OnOk result (writes' ≡ writes ++ write ∷ []) → OnErr result (writes' ≡ writes) → AreCells stores writes'
cells_after stores writes writes' write (Ok done) old new ok err = cells_more stores writes writes' write old new ok
cells_after stores writes writes' write (Err memory) old new ok err = subst (AreCells stores) (sym err) old

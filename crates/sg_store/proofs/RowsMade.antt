-- Rows that are made one after the other, and in halves.
use Rattle.std.proofs.Common.{◌≡◌, ℕ, zero, suc, ◌+◌, ◌-◌, ◌≤◌, List, [], ◌∷◌, ◌++◌, length, replicate, refl, sym, ap, ◌∙◌, arith}
use Rattle.std.specs.Prelude.{slice_index_or}
use Rattle.sg_layout.specs.declared.shape.Shape.{Shape}
use Rattle.sg_store.specs.declared.node.NodeWords.{NodeWords}
use Rattle.sg_store.specs.StoreWords.{StoreWords}
use Rattle.sg_store.specs.steps.RowsMade.{rows_from}

-- some, and then those from the next place on
pub rows_split : (rows : List (List ℕ)) (cells place a b : ℕ) → rows_from rows cells place a ++ rows_from rows cells (place + a) b ≡ rows_from rows cells place (a + b)
rows_split rows cells place zero b =
    let here : place + 0 ≡ place = omega arith in
    let all : 0 + b ≡ b = omega arith in
    ap (λ p. rows_from rows cells p b) here ∙ ap (rows_from rows cells place) (sym all)
rows_split rows cells place (suc a) b =
    let next : place + suc a ≡ suc place + a = omega arith in
    let all : suc a + b ≡ suc (a + b) = omega arith in
    ap (λ rest. slice_index_or rows place (replicate cells 0) ∷ rest)
    (ap (λ p. rows_from rows cells (suc place) a ++ rows_from rows cells p b) next ∙ rows_split rows cells (suc place) a b)
    ∙ ap (rows_from rows cells place) (sym all)

-- both halves
pub rows_joined : (rows : List (List ℕ)) (cells from middle to : ℕ) (left right : List (List ℕ)) → from ≤ middle → middle ≤ to → left ≡ rows_from rows cells from (middle - from) → right ≡ rows_from rows cells middle (to - middle) → left ++ right ≡ rows_from rows cells from (to - from)
rows_joined rows cells from middle to left right low high lefts rights =
    let at : middle ≡ from + (middle - from) = omega (arith, low) in
    let all : (middle - from) + (to - middle) ≡ to - from = omega (arith, low, high) in
    ap (λ l. l ++ right) lefts ∙ ap (λ r. rows_from rows cells from (middle - from) ++ r) (rights ∙ ap (λ p. rows_from rows cells p (to - middle)) at)
    ∙ rows_split rows cells from (middle - from) (to - middle) ∙ ap (rows_from rows cells from) all

-- none yet
pub rows_none : (rows : List (List ℕ)) (cells from : ℕ) (made : List (List ℕ)) → made ≡ [] → made ≡ rows_from rows cells from (from - from)
rows_none rows cells from made none =
    let zeroth : from - from ≡ 0 = omega arith in
    none ∙ sym (ap (rows_from rows cells from) zeroth)

-- one more
pub rows_more : (rows : List (List ℕ)) (cells from place : ℕ) (made : List (List ℕ)) (row : List ℕ) → from ≤ place → made ≡ rows_from rows cells from (place - from) → row ≡ slice_index_or rows place (replicate cells 0) → made ++ row ∷ [] ≡ rows_from rows cells from (place + 1 - from)
rows_more rows cells from place made row low is next =
    let one : place + 1 - place ≡ 1 = omega arith in
    rows_joined rows cells from place (place + 1) made (row ∷ []) low (omega arith) is
    (ap (λ r. r ∷ []) next ∙ ap (rows_from rows cells place) (sym one))

-- a row further on, among the later ones
rows_later : (row : List ℕ) (rows : List (List ℕ)) (cells place many : ℕ) → rows_from (row ∷ rows) cells (suc place) many ≡ rows_from rows cells place many
rows_later row rows cells place zero = refl
rows_later row rows cells place (suc many) =
    ap (λ rest. slice_index_or rows place (replicate cells 0) ∷ rest) (rows_later row rows cells (suc place) many)

-- all rows that stand there
pub rows_copied : (rows : List (List ℕ)) (cells : ℕ) → rows_from rows cells 0 (length rows) ≡ rows
rows_copied [] cells = refl
rows_copied (row ∷ rows) cells = ap (λ rest. row ∷ rest) (rows_later row rows cells 0 (length rows) ∙ rows_copied rows cells)

-- a store of copied words
pub copied_whole : (store : StoreWords) (cells : ℕ) (was now : Shape) (olds nodes : List NodeWords) (rows read fields : List (List ℕ)) → (let whole : StoreWords = record { shape = was; nodes = olds; fields = rows } in whole ≡ store) → now ≡ was → nodes ≡ olds → read ≡ rows → fields ≡ rows_from read cells 0 (length read - 0) → let whole : StoreWords = record { shape = now; nodes = nodes; fields = fields } in whole ≡ store
copied_whole store cells was now olds nodes rows read fields whole shape words same made =
    let many : length read - 0 ≡ length read = omega arith in
    let all : fields ≡ rows = made ∙ ap (rows_from read cells 0) many ∙ rows_copied read cells ∙ same in
    ap (λ s. make s nodes fields) shape ∙ ap (λ n. make was n fields) words ∙ ap (make was olds) all ∙ whole
  where
    make : Shape → List NodeWords → List (List ℕ) → StoreWords
    make s n f = record { shape = s; nodes = n; fields = f }

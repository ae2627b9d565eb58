-- Rows that end before their last places, which have the same item.
use Rattle.std.proofs.Common.{◌≡◌, ℕ, ◌+◌, ◌-◌, ◌<◌, ◌≤◌, List, [], ◌++◌, length, set, get_or, replicate, refl, sym, ap, ◌∙◌, arith, append_assoc}
use Rattle.std.proofs.lemmas.List.{length-append, length-replicate, length-set, get_or-replicate, get_or_append_left, get_or-append_right, set-append_left, replicate-append-replicate}
use Rattle.sg_links.specs.steps.Padding.{padded_with}

module _ {A : Type 0} where
  -- there is an item for each place
  pub padded_long : (items : List A) (rest : A) (places : ℕ) → length items ≤ places → length (padded_with items rest places) ≡ places
  padded_long items rest places few =
      let both : length (padded_with items rest places) ≡ length items + length (replicate (places - length items) rest) = length-append items (replicate (places - length items) rest) in
      let more : length (replicate (places - length items) rest) ≡ places - length items = length-replicate (places - length items) rest in
      omega (arith, few, both, more)

  pub padded_at : (items : List A) (rest other : A) (places place : ℕ) → place < length items → get_or (padded_with items rest places) place other ≡ get_or items place other
  padded_at items rest other places place below = get_or_append_left items (replicate (places - length items) rest) other place below

  pub padded_past : (items : List A) (rest other : A) (places place : ℕ) → length items ≤ place → place < places → get_or (padded_with items rest places) place other ≡ rest
  padded_past items rest other places place past below =
      get_or-append_right items (replicate (places - length items) rest) (length items) place other refl past
      ∙ get_or-replicate (places - length items) (place - length items) rest other (omega (arith, past, below))

  -- as contracts see the row
  pub ends_within : (items row : List A) (rest : A) (places : ℕ) → padded_with items rest places ≡ row → length items ≤ places → length items ≤ length row
  ends_within items row rest places view few = omega (arith, few, padded_long items rest places few, ap length view)

  pub rest_past : (items row : List A) (rest other : A) (places place : ℕ) → padded_with items rest places ≡ row → length items ≤ places → length items ≤ place → place < length row → get_or row place other ≡ rest
  rest_past items row rest other places place view few past below =
      ap (λ (xs : List A). get_or xs place other) (sym view)
      ∙ padded_past items rest other places place past (omega (arith, below, padded_long items rest places few, ap length view))

  -- a row of no items
  pub padded_none : (items : List A) (rest : A) (places : ℕ) → items ≡ [] → padded_with items rest places ≡ replicate places rest
  padded_none items rest places none =
      let all : places - 0 ≡ places = omega arith in
      ap (λ (xs : List A). padded_with xs rest places) none ∙ ap (λ n. replicate n rest) all

  -- items that have grown are those of the same row
  grown_same : (items : List A) (rest : A) (more places : ℕ) → length items ≤ places → more ≤ places → padded_with (padded_with items rest more) rest places ≡ padded_with items rest places
  grown_same items rest more places few le =
      let added : length (padded_with items rest more) ≡ length items + length (replicate (more - length items) rest) = length-append items (replicate (more - length items) rest) in
      let long : length (replicate (more - length items) rest) ≡ more - length items = length-replicate (more - length items) rest in
      let left : places - length (padded_with items rest more) ≡ (places - length items) - (more - length items) = omega (arith, added, long, few, le) in
      let all : (more - length items) + ((places - length items) - (more - length items)) ≡ places - length items = omega (arith, few, le) in
      append_assoc items (replicate (more - length items) rest) (replicate (places - length (padded_with items rest more)) rest)
      ∙ ap (λ (xs : List A). items ++ xs)
      (ap (λ n. replicate (more - length items) rest ++ replicate n rest) left
      ∙ replicate-append-replicate (more - length items) ((places - length items) - (more - length items)) rest
      ∙ ap (λ n. replicate n rest) all)

  pub grown_few : (items : List A) (rest : A) (more places : ℕ) → length items ≤ places → more ≤ places → length (padded_with items rest more) ≤ places
  grown_few items rest more places few le =
      let added : length (padded_with items rest more) ≡ length items + length (replicate (more - length items) rest) = length-append items (replicate (more - length items) rest) in
      let long : length (replicate (more - length items) rest) ≡ more - length items = length-replicate (more - length items) rest in
      omega (arith, added, long, few, le)

  pub grown_within : (items : List A) (rest : A) (more place : ℕ) → place < more → place < length (padded_with items rest more)
  grown_within items rest more place below =
      let added : length (padded_with items rest more) ≡ length items + length (replicate (more - length items) rest) = length-append items (replicate (more - length items) rest) in
      let long : length (replicate (more - length items) rest) ≡ more - length items = length-replicate (more - length items) rest in
      omega (arith, added, long, below)

  -- an item that is given
  set_within : (items : List A) (rest item : A) (places place : ℕ) → place < length items → padded_with (set items place item) rest places ≡ set (padded_with items rest places) place item
  set_within items rest item places place below =
      sym (set-append_left items (replicate (places - length items) rest) place item below
      ∙ ap (λ n. set items place item ++ replicate (places - n) rest) (sym (length-set items place item)))

  -- items that have grown past a place, and then the item of the place
  pub given : (items row more now : List A) (rest item : A) (places place : ℕ) → padded_with items rest places ≡ row → length items ≤ places → place < places → more ≡ padded_with items rest (place + 1) → now ≡ set more place item → padded_with now rest places ≡ set row place item
  given items row more now rest item places place view few there made is =
      let next : place + 1 ≤ places = omega (arith, there) in
      ap (λ (xs : List A). padded_with xs rest places) (is ∙ ap (λ (xs : List A). set xs place item) made)
      ∙ set_within (padded_with items rest (place + 1)) rest item places place (grown_within items rest (place + 1) place (omega arith))
      ∙ ap (λ (xs : List A). set xs place item) (grown_same items rest (place + 1) places few next ∙ view)

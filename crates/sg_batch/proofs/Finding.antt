-- The least number of lists, one after the other.
use Rattle.std.proofs.Common.{◌≡◌, ℕ, ◌<◌, ◌≤◌, inl, inr, ◌⊎◌, List, [], ◌∷◌, ◌++◌, Option, Some, None, refl, arith}
use Rattle.std.specs.Prelude.{Contains}
use Rattle.std.proofs.lemmas.List.Elements.{Contains-append_left, Contains-append_right, Contains-append_cases}
use Rattle.sg_words.proofs.Uses.{contains_none, contains_head, contains_cases}
use Rattle.sg_batch.specs.steps.Next.{IsNext}

pub next_nothing : (from : ℕ) → IsNext [] from None
next_nothing from number has = absurd (contains_none number has)

pub next_below : (layout from : ℕ) → layout < from → IsNext (layout ∷ []) from None
next_below layout from low number has = by (contains_cases number layout [] has)
  where
    by : (layout ≡ number) ⊎ Contains [] number → number < from
    by (inl same) = omega (arith, same, low)
    by (inr none) = absurd (contains_none number none)

pub next_itself : (layout from : ℕ) → from ≤ layout → IsNext (layout ∷ []) from (Some layout)
next_itself layout from high = (contains_head layout layout [] refl, (high, λ number has above. by number (contains_cases number layout [] has)))
  where
    by : (number : ℕ) → (layout ≡ number) ⊎ Contains [] number → layout ≤ number
    by number (inl same) = omega (arith, same)
    by number (inr none) = absurd (contains_none number none)

module _ (first second : List ℕ) (from : ℕ) where
  -- the first list has none left
  pub next_second : (next : Option ℕ) → IsNext first from None → IsNext second from next → IsNext (first ++ second) from next
  next_second None none rest = λ number has. by number (Contains-append_cases first second number has)
    where
      by : (number : ℕ) → Contains first number ⊎ Contains second number → number < from
      by number (inl here) = none number here
      by number (inr there) = rest number there
  next_second (Some next) none rest = (
    Contains-append_right first second next rest.0,
    (rest.1.0, λ number has above. by number above (Contains-append_cases first second number has)),
  )
    where
      by : (number : ℕ) → from ≤ number → Contains first number ⊎ Contains second number → next ≤ number
      by number above (inl here) = absurd (let low = none number here in omega (arith, low, above))
      by number above (inr there) = rest.1.1 number there above

  -- nor has the second
  pub next_first : (next : ℕ) → IsNext first from (Some next) → IsNext second from None → IsNext (first ++ second) from (Some next)
  next_first next here none = (
    Contains-append_left first second next here.0,
    (here.1.0, λ number has above. by number above (Contains-append_cases first second number has)),
  )
    where
      by : (number : ℕ) → from ≤ number → Contains first number ⊎ Contains second number → next ≤ number
      by number above (inl mine) = here.1.1 number mine above
      by number above (inr other) = absurd (let low = none number other in omega (arith, low, above))

  -- each has one
  pub next_left : (left right : ℕ) → IsNext first from (Some left) → IsNext second from (Some right) → left ≤ right → IsNext (first ++ second) from (Some left)
  next_left left right here there less = (
    Contains-append_left first second left here.0,
    (here.1.0, λ number has above. by number above (Contains-append_cases first second number has)),
  )
    where
      by : (number : ℕ) → from ≤ number → Contains first number ⊎ Contains second number → left ≤ number
      by number above (inl mine) = here.1.1 number mine above
      by number above (inr other) = let high = there.1.1 number other above in omega (arith, high, less)

  pub next_right : (left right : ℕ) → IsNext first from (Some left) → IsNext second from (Some right) → right < left → IsNext (first ++ second) from (Some right)
  next_right left right here there less = (
    Contains-append_right first second right there.0,
    (there.1.0, λ number has above. by number above (Contains-append_cases first second number has)),
  )
    where
      by : (number : ℕ) → from ≤ number → Contains first number ⊎ Contains second number → right ≤ number
      by number above (inl mine) = let high = here.1.1 number mine above in omega (arith, high, less)
      by number above (inr other) = there.1.1 number other above

-- it goes by what is in a list
pub next_same : (xs ys : List ℕ) (from : ℕ) (next : Option ℕ) → ((n : ℕ) → Contains xs n → Contains ys n) → ((n : ℕ) → Contains ys n → Contains xs n) → IsNext xs from next → IsNext ys from next
next_same xs ys from None into back is = λ number has. is number (back number has)
next_same xs ys from (Some next) into back is = (into next is.0, (is.1.0, λ number has above. is.1.1 number (back number has) above))

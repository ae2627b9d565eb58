-- Numbers that are taken out at the front of a free list.
use Rattle.std.proofs.Common.{◌≡◌, ℕ, zero, suc, ◌+◌, ◌<◌, ◌≤◌, Bool, true, false, not, List, [], ◌∷◌, ◌++◌, length, get_or, take, drop, Some, refl, sym, ap, ◌∙◌, arith, inl, inr}
use Rattle.std.specs.Prelude.{slice_get}
use Rattle.std.specs.List.{All}
use Rattle.std.proofs.lemmas.Bool.{cases_Bool, cases_eq}
use Rattle.std.proofs.lemmas.List.{take-append-drop, get_or-drop, take_more, length-drop}
use Rattle.std.proofs.lemmas.List.Elements.{filter-append, All-take}
use Rattle.std.proofs.lemmas.Option.{none-some, same_Some}
use Rattle.sg_links.specs.Lists.{Lists, list_of, with_list, times}
use Rattle.sg_links.proofs.Uses.{times-append, times_other}
use Rattle.sg_pool.specs.steps.Kept.{dead_in}
use Rattle.sg_pool.proofs.Times.{dead_none, dead_all}
use Rattle.sg_pool.proofs.FreeLists.{list_there, with_twice}

-- what stands first after so many
record IsNext (xs : List ℕ) (i x : ℕ) : Type 0 where
  below : i < length xs
  at : x ≡ get_or xs i 0
  rest : drop 1 (drop i xs) ≡ drop (i + 1) xs

next_of : (xs : List ℕ) (i x : ℕ) → slice_get (drop i xs) 0 ≡ Some x → IsNext xs i x
next_of [] zero x is = absurd (none-some x is)
next_of [] (suc i) x is = absurd (none-some x is)
next_of (y ∷ ys) zero x is = record { below = omega arith; at = sym (same_Some y x is); rest = refl }
next_of (y ∷ ys) (suc i) x is =
    let next = next_of ys i x is in
    let more : suc (i + 1) ≡ suc i + 1 = omega arith in
    record { below = omega (arith, next.below); at = next.at; rest = next.rest ∙ ap (λ n. drop n (y ∷ ys)) more }

-- one number more is taken out
pub taken_more : (list taken : List ℕ) (i x : ℕ) → take i taken ≡ take i list → slice_get (drop i list) 0 ≡ Some x → i < length taken → x ≡ get_or taken i 0 → take (i + 1) taken ≡ take (i + 1) list
taken_more list taken i x same first below is =
    let next = next_of list i x first in
    take_more taken i 0 below ∙ ap (λ (ys : List ℕ). ys ++ get_or taken i 0 ∷ []) same
    ∙ ap (λ y. take i list ++ y ∷ []) (sym is ∙ next.at) ∙ sym (take_more list i 0 next.below)

pub left_more : (l now new : Lists) (i x : ℕ) → 0 < length l.lists → now ≡ with_list l 0 (drop i (list_of l 0)) → slice_get (list_of now 0) 0 ≡ Some x → new ≡ with_list now 0 (drop 1 (list_of now 0)) → new ≡ with_list l 0 (drop (i + 1) (list_of l 0))
left_more l now new i x there is first popped =
    let list : List ℕ = list_of l 0 in
    let list_is : list_of now 0 ≡ drop i list = ap (λ (j : Lists). list_of j 0) is ∙ list_there l (drop i list) there in
    let next = next_of list i x (ap (λ (ys : List ℕ). slice_get ys 0) (sym list_is) ∙ first) in
    popped ∙ ap (λ (ys : List ℕ). with_list now 0 ys) (ap (drop 1) list_is ∙ next.rest)
    ∙ ap (λ (j : Lists). with_list j 0 (drop (i + 1) list)) is ∙ with_twice l (drop i list) (drop (i + 1) list)

-- live numbers at the front leave nothing
pub front_gone : (live : List Bool) (list taken : List ℕ) (k : ℕ) → All (λ x. get_or live x false ≡ true) taken → take k taken ≡ take k list → dead_in live list ≡ dead_in live (drop k list)
front_gone live list taken k on same =
    ap (dead_in live) (sym (take-append-drop k list)) ∙ filter-append (λ x. not (get_or live x false)) (take k list) (drop k list)
    ∙ ap (λ (ys : List ℕ). ys ++ dead_in live (drop k list))
    (ap (dead_in live) (sym same) ∙ dead_none live (take k taken) (All-take (λ x. get_or live x false ≡ true) k taken on))

from_past : (mark x : ℕ) (xs : List ℕ) → 0 < times x xs → ((i : ℕ) → i < length xs → mark ≤ get_or xs i 0) → mark ≤ x
from_past mark x [] stands past = absurd (omega arith)
from_past mark x (y ∷ ys) stands past = elim (cases_eq y x) [
  | inl same ↦ let first : mark ≤ y = past 0 (omega arith) in omega (arith, first, same)
  | inr other ↦ from_past mark x ys (omega (arith, times_other x y ys other, stands)) (λ i below. past (suc i) (omega (arith, below)))
]

counted : (x k : ℕ) (xs : List ℕ) → times x xs ≡ times x (take k xs) + times x (drop k xs)
counted x k xs = ap (times x) (sym (take-append-drop k xs)) ∙ times-append x (take k xs) (drop k xs)

-- and where all others that were taken are past the mark, what is left isn't live
pub rest_stays : (live : List Bool) (list taken : List ℕ) (k mark : ℕ) → take k taken ≡ take k list → ((x : ℕ) → 0 < times x list → get_or live x false ≡ true → 0 < times x taken) → ((x : ℕ) → 0 < times x list → x < mark) → ((x : ℕ) → times x list ≤ 1) → ((i : ℕ) → k ≤ i → i < length taken → mark ≤ get_or taken i 0) → dead_in live (drop k list) ≡ drop k list
rest_stays live list taken k mark same others below once past = dead_all live (drop k list) (λ x some.
    let stands : 0 < times x list = omega (arith, counted x k list, some) in
    elim (cases_Bool (get_or live x false)) [
      | inl on ↦
          let front : times x (take k taken) ≡ times x (take k list) = ap (times x) same in
          let there : 0 < times x (drop k taken) = omega (arith, others x stands on, counted x k taken, counted x k list, front, some, once x) in
          let high : mark ≤ x = from_past mark x (drop k taken) there (λ i low.
          let at : get_or (drop k taken) i 0 ≡ get_or taken (k + i) 0 = get_or-drop k taken i 0 in
          let least : mark ≤ get_or taken (k + i) 0 = past (k + i) (omega arith) (omega (arith, low, length-drop k taken)) in
          omega (arith, at, least)) in
          absurd (omega (arith, below x stands, high))
      | inr off ↦ off
    ])

-- so the rest is left, or swept
pub rest_left : (live : List Bool) (l now : Lists) (k : ℕ) → now ≡ with_list l 0 (drop k (list_of l 0)) → dead_in live (list_of l 0) ≡ dead_in live (drop k (list_of l 0)) → dead_in live (drop k (list_of l 0)) ≡ drop k (list_of l 0) → now ≡ with_list l 0 (dead_in live (list_of l 0))
rest_left live l now k is gone stays = is ∙ ap (λ (ys : List ℕ). with_list l 0 ys) (sym (gone ∙ stays))

pub rest_swept : (live : List Bool) (l now new : Lists) (k : ℕ) → 0 < length l.lists → now ≡ with_list l 0 (drop k (list_of l 0)) → dead_in live (list_of l 0) ≡ dead_in live (drop k (list_of l 0)) → new ≡ with_list now 0 (dead_in live (list_of now 0)) → new ≡ with_list l 0 (dead_in live (list_of l 0))
rest_swept live l now new k there is gone swept =
    let list : List ℕ = list_of l 0 in
    let rest : List ℕ = drop k list in
    let list_is : list_of now 0 ≡ rest = ap (λ (j : Lists). list_of j 0) is ∙ list_there l rest there in
    swept ∙ ap (λ (ys : List ℕ). with_list now 0 (dead_in live ys)) list_is ∙ ap (λ (j : Lists). with_list j 0 (dead_in live rest)) is
    ∙ with_twice l rest (dead_in live rest) ∙ ap (λ (ys : List ℕ). with_list l 0 ys) (sym gone)

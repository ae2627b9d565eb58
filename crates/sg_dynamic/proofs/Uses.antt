-- Lemmas on chains for the crates above.
use Rattle.std.proofs.Common.{◌≡◌, ℕ, zero, suc, ◌+◌, ◌-◌, ◌*◌, ◌/◌, ◌<◌, ◌≤◌, false, List, [], ◌∷◌, ◌++◌, length, take, drop, get_or, set, replicate, refl, sym, ap, ◌∙◌, arith, inl, inr}
use Rattle.std.specs.Prelude.{Some, IsTrue, slice_get}
use Rattle.std.proofs.lemmas.Bool.{cases_eq, cases_Bool}
use Rattle.std.proofs.lemmas.List.{length-set, get_or-set_same, get_or-set_other, get_or-replicate, length-replicate, take-append-drop}
use Rattle.std.proofs.lemmas.List.Sums.{sum_by-cons}
use Rattle.std.proofs.Math.Nat.{le-div_iff_mul-le, div-mul-le_self}
use Rattle.sg_links.specs.Lists.{Lists, list_of, times, times_in_lists, empty_lists}
use Rattle.sg_links.proofs.Uses.{times_in_set, times-append, times_same, stands, one_if}
use Rattle.sg_pool.specs.Numbers.{PoolNumbers, place_count, is_live_number}
use Rattle.sg_dynamic.specs.Chunks.{chunks_of, lengths_from, IsExact, HaveRoom, AreFitted}
use Rattle.sg_dynamic.proofs.Growth.{front_long}
pub use Rattle.sg_dynamic.proofs.Growth.{chunks_within, room_for_one}

-- longer lists have a number at least as often
times_more : (x : ℕ) (shorter longer : List (List ℕ)) → length shorter ≡ length longer → ((i : ℕ) → i < length shorter → times x (get_or shorter i []) ≤ times x (get_or longer i [])) → times_in_lists x shorter ≤ times_in_lists x longer
times_more x [] longer many each = omega arith
times_more x (list ∷ lists) [] many each = absurd (omega arith)
times_more x (list ∷ lists) (more ∷ mores) many each =
    let first : times x list ≤ times x more = each 0 (omega arith) in
    let rest : times_in_lists x lists ≤ times_in_lists x mores = times_more x lists mores (omega arith) (λ i below. each (suc i) (omega arith)) in
    omega (arith, sum_by-cons {X = List ℕ} (times x) list lists, sum_by-cons {X = List ℕ} (times x) more mores)

-- a list is its front and the rest, so a number of the front stands in it
front_counts : (x : ℕ) (xs ys : List ℕ) → take (length xs) ys ≡ xs → times x ys ≡ times x xs + times x (drop (length xs) ys)
front_counts x xs ys front =
    let whole : ys ≡ xs ++ drop (length xs) ys = sym (take-append-drop (length xs) ys) ∙ ap (λ zs. zs ++ drop (length xs) ys) front in
    ap (times x) whole ∙ times-append x xs (drop (length xs) ys)

pub kept_counts : (old new : Lists) (lengths : List ℕ) (chunk x : ℕ) → HaveRoom old lengths chunk → AreFitted old new lengths chunk → times_in_lists x old.lists ≤ times_in_lists x new.lists
kept_counts old new lengths chunk x room fitted =
    times_more x old.lists new.lists (sym fitted.many) (λ i below. omega (arith, front_counts x (list_of old i) (list_of new i) (fitted.front i (omega (arith, room.many)))))

stands_behind : (xs : List ℕ) (n k x : ℕ) → n ≤ k → slice_get xs k ≡ Some x → 0 < times x (drop n xs)
stands_behind xs zero k x past at = stands xs k x at
stands_behind [] (suc n) k x past at = cc
stands_behind (y ∷ ys) (suc n) zero x past at = absurd (omega arith)
stands_behind (y ∷ ys) (suc n) (suc k) x past at = stands_behind ys n k x (omega arith) at

pub added_counts : (old new : Lists) (lengths : List ℕ) (chunk head place x : ℕ) → HaveRoom old lengths chunk → AreFitted old new lengths chunk → head < length lengths → length (list_of old head) ≤ place → slice_get (list_of new head) place ≡ Some x → times_in_lists x old.lists + 1 ≤ times_in_lists x new.lists
added_counts old new lengths chunk head place x room fitted there past at =
    let list : List ℕ = list_of old head in
    let here : head < length old.lists = omega (arith, room.many) in
    let more : List (List ℕ) = set old.lists head (x ∷ list) in
    let counted : times_in_lists x more + times x list ≡ times_in_lists x old.lists + times x (x ∷ list) = times_in_set x old.lists head (x ∷ list) here in
    let behind : 0 < times x (drop (length list) (list_of new head)) = stands_behind (list_of new head) (length list) place x past at in
    let within : times_in_lists x more ≤ times_in_lists x new.lists = times_more x more new.lists (omega (arith, length-set old.lists head (x ∷ list), fitted.many)) (λ i below. elim (cases_eq i head) [
      | inl same ↦
          let mine : get_or more i [] ≡ x ∷ list = ap (λ k. get_or more k []) same ∙ get_or-set_same old.lists head (x ∷ list) [] here in
          let count : times x (get_or more i []) ≡ times x (x ∷ list) = ap (times x) mine in
          let theirs : times x (get_or new.lists i []) ≡ times x (list_of new head) = ap (λ k. times x (list_of new k)) same in
          omega (arith, times_same x list, front_counts x list (list_of new head) (fitted.front head there))
      | inr other ↦
          let mine : get_or more i [] ≡ list_of old i = get_or-set_other old.lists head i (x ∷ list) [] other in
          let count : times x (get_or more i []) ≡ times x (list_of old i) = ap (times x) mine in
          omega (arith, front_counts x (list_of old i) (list_of new i) (fitted.front i (omega (arith, room.many, length-set old.lists head (x ∷ list)))))
    ]) in
    omega (arith, times_same x list)

at_most_once : (chains : Lists) (pool : PoolNumbers) (x : ℕ) → IsExact chains pool → times_in_lists x chains.lists ≤ 1
at_most_once chains pool x exact = elim (cases_Bool (is_live_number pool x)) [
  | inl live ↦ omega (arith, exact.live x, ap one_if live)
  | inr dead ↦ omega (arith, exact.live x, ap one_if dead)
]

pub added_were_free : (old new : Lists) (before after : PoolNumbers) (lengths : List ℕ) (chunk : ℕ) → HaveRoom old lengths chunk → IsExact old before → IsExact new after → AreFitted old new lengths chunk → (head place x : ℕ) → head < length lengths → length (list_of old head) ≤ place → slice_get (list_of new head) place ≡ Some x → is_live_number before x ≡ false
added_were_free old new before after lengths chunk room was now fitted head place x there past at = elim (cases_Bool (is_live_number before x)) [
  | inl live ↦ absurd (omega (arith, added_counts old new lengths chunk head place x room fitted there past at, at_most_once new after x now, was.live x, ap one_if live))
  | inr free ↦ free
]

pub stay_live : (old new : Lists) (before after : PoolNumbers) (lengths : List ℕ) (chunk : ℕ) → HaveRoom old lengths chunk → IsExact old before → IsExact new after → AreFitted old new lengths chunk → (x : ℕ) → IsTrue (is_live_number before x) → IsTrue (is_live_number after x)
stay_live old new before after lengths chunk room was now fitted x live = elim (cases_Bool (is_live_number after x)) [
  | inl still ↦ still
  | inr dead ↦ absurd (omega (arith, kept_counts old new lengths chunk x room fitted, was.live x, now.live x, ap one_if live, ap one_if dead))
]

-- empty chains over a pool without live numbers
none_in_empty : (x heads : ℕ) → times_in_lists x (replicate heads []) ≡ 0
none_in_empty x zero = refl
none_in_empty x (suc heads) = omega (arith, sum_by-cons {X = List ℕ} (times x) [] (replicate heads []), none_in_empty x heads)

pub empty_exact : (chains : Lists) (pool : PoolNumbers) (numbers heads : ℕ) → chains ≡ empty_lists numbers heads → place_count pool ≡ numbers → ((x : ℕ) → is_live_number pool x ≡ false) → IsExact chains pool
empty_exact chains pool numbers heads is places none = record {
  places = ap (λ (l : Lists). l.numbers) is ∙ sym places;
  live = λ x. ap (λ (l : Lists). times_in_lists x l.lists) is ∙ none_in_empty x heads ∙ sym (ap one_if (none x));
}

pub empty_room : (chains : Lists) (lengths : List ℕ) (chunk numbers heads : ℕ) → chains ≡ empty_lists numbers heads → length lengths ≡ heads → HaveRoom chains lengths chunk
empty_room chains lengths chunk numbers heads is many = record {
  many = ap (λ (l : Lists). length l.lists) is ∙ length-replicate {A = List ℕ} heads [] ∙ sym many;
  within = λ i below.
      let nothing : list_of chains i ≡ [] = ap (λ (l : Lists). list_of l i) is ∙ get_or-replicate {A = List ℕ} heads i [] [] (omega arith) in
      omega (arith, ap length nothing);
}

-- and room for lengths of which the first are here
pub empty_front : (chains : Lists) (front : List ℕ) (chunk numbers heads : ℕ) → chains ≡ empty_lists numbers heads → length front ≤ heads → HaveRoom chains (lengths_from front (length chains.lists)) chunk
empty_front chains front chunk numbers heads is few =
    let many : length chains.lists ≡ heads = ap (λ (l : Lists). length l.lists) is ∙ length-replicate {A = List ℕ} heads [] in
    empty_room chains (lengths_from front (length chains.lists)) chunk numbers heads is (omega (arith, many, few, front_long front (length chains.lists)))

-- chains that fit have room for lengths that do not fall
pub chunks_rise : (chunk less more : ℕ) → 1 ≤ chunk → less ≤ more → chunks_of chunk less ≤ chunks_of chunk more
chunks_rise chunk less more some rises =
    let within : (less + (chunk - 1)) / chunk * chunk ≤ more + (chunk - 1) = omega (arith, div-mul-le_self (less + (chunk - 1)) chunk) in
    (le-div_iff_mul-le some).1 within

pub room_again : (old new : Lists) (lengths more : List ℕ) (chunk : ℕ) → 1 ≤ chunk → HaveRoom old lengths chunk → AreFitted old new lengths chunk → length more ≡ length lengths → ((i : ℕ) → i < length lengths → get_or lengths i 0 ≤ get_or more i 0) → HaveRoom new more chunk
room_again old new lengths more chunk some room fitted many rise = record {
  many = fitted.many ∙ room.many ∙ sym many;
  within = λ i below. omega (arith, fitted.long i (omega arith), chunks_rise chunk (get_or lengths i 0) (get_or more i 0) some (rise i (omega arith)));
}

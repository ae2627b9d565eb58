-- What passes made of their fields, the last first.
use Rattle.std.proofs.Common.{◌≡◌, ℕ, ◌<◌, List, [], ◌∷◌, ◌++◌, length, get_or, Some, refl, sym, ap, ◌∙◌, subst, arith, append_assoc}
use Rattle.std.specs.Prelude.{slice_get}
use Rattle.std.proofs.lemmas.List.{append-nil, length-append}
use Rattle.std.proofs.lemmas.List.Elements.{All-nil, All-cons}
use Rattle.std.proofs.lemmas.List.Kept.{AllPairs-cons}
use Rattle.std.proofs.lemmas.Option.{same_Some, slice_get_within}
use Rattle.sg_flat.specs.declared.effects.Write.{Write}
use Rattle.sg_accum.specs.declared.seat.AccSeat.{AccSeat}
use Rattle.sg_accum.specs.Folding.{old_values, operator_of, type_of, given_of, handed_of, IsSeatOf, AreFolded}
use Rattle.sg_store.specs.StoreWords.{StoreWords}
use Rattle.sg_store.specs.Rows.{IsFieldFront}
use Rattle.sg_exec.specs.declared.results.shared.Accumulated.{Accumulated}
use Rattle.sg_exec.specs.declared.results.sums.Sum.{Sum}
use Rattle.sg_exec.specs.steps.Racing.{ArePasses, AreSeats}
use Rattle.sg_exec.specs.steps.Passes.{HasPass, AreWhole, GaveReached, AreGiven, IsSumOf, into_field, passed}
use Rattle.sg_exec.specs.steps.Made.{AddsSums, HasRow, summed, words_of}
use Rattle.sg_exec.proofs.FieldsFound.{snoc_old, snoc_new}
use Rattle.sg_exec.proofs.SumsPut.{sum_row}

passed_snoc : (list : List Accumulated) (last : Accumulated) (writes : List Write) → passed (list ++ last ∷ []) writes ≡ into_field last.layout last.field writes ++ passed list writes
passed_snoc [] last writes = sym (append-nil (into_field last.layout last.field writes))
passed_snoc (it ∷ list) last writes =
    ap (λ (ws : List Write). ws ++ into_field it.layout it.field writes) (passed_snoc list last writes)
    ∙ append_assoc (into_field last.layout last.field writes) (passed list writes) (into_field it.layout it.field writes)

empty_list : (list : List Accumulated) → length list ≡ 0 → list ≡ []
empty_list [] none = refl
empty_list (it ∷ list) none = absurd (omega (arith, none))

-- ---- all but the last

module _ (all list : List Accumulated) (last : Accumulated) (is : all ≡ list ++ last ∷ []) where
  at_front : (k : ℕ) (it : Accumulated) → slice_get list k ≡ Some it → slice_get all k ≡ Some it
  at_front k it at = ap (λ (xs : List Accumulated). slice_get xs k) is ∙ snoc_old list last it k at

  at_last : slice_get all (length list) ≡ Some last
  at_last = ap (λ (xs : List Accumulated). slice_get xs (length list)) is ∙ snoc_new list last

  passes_front : (stores : List StoreWords) → ArePasses stores all → ArePasses stores list
  passes_front stores are = record {
    each = λ k it at. are.each k it (at_front k it at);
    apart = λ j k it other at also. are.apart j k it other (at_front j it at) (at_front k other also);
  }

  has_front : (layout field : ℕ) → HasPass list layout field → HasPass all layout field
  has_front layout field has = record { number = has.number; it = has.it; there = at_front has.number has.it has.there; layout_is = has.layout_is; field_is = has.field_is }

  -- the others are of other fields
  apart_last : (stores : List StoreWords) → ArePasses stores all → (layout field : ℕ) → HasPass list layout field → last.layout ≡ layout → last.field ≡ field → ⊥
  apart_last stores are layout field has layouts fields =
      let same : has.number ≡ length list = are.apart has.number (length list) has.it last (at_front has.number has.it has.there) at_last (has.layout_is ∙ sym layouts) (has.field_is ∙ sym fields) in
      let below = slice_get_within list has.number has.it has.there in
      omega (arith, same, below)

  module _ (all_seats seats : List AccSeat) (seat : AccSeat) (also_is : all_seats ≡ seats ++ seat ∷ []) where
    seat_front : (k : ℕ) (it : AccSeat) → slice_get seats k ≡ Some it → slice_get all_seats k ≡ Some it
    seat_front k it at = ap (λ (xs : List AccSeat). slice_get xs k) also_is ∙ snoc_old seats seat it k at

    same_long : AreSeats all all_seats → length seats ≡ length list
    same_long are =
        let long = are.long in
        let one = ap length is ∙ length-append list (last ∷ []) in
        let two = ap length also_is ∙ length-append seats (seat ∷ []) in
        omega (arith, long, one, two)

    seat_last : AreSeats all all_seats → slice_get all_seats (length list) ≡ Some seat
    seat_last are = ap (λ (n : ℕ). slice_get all_seats n) (sym (same_long are)) ∙ ap (λ (xs : List AccSeat). slice_get xs (length seats)) also_is ∙ snoc_new seats seat

    pub seats_front : AreSeats all all_seats → AreSeats list seats
    seats_front are = record { long = same_long are; own = λ k it one at also. are.own k it one (at_front k it at) (seat_front k one also) }

    pub own_last : AreSeats all all_seats → IsSeatOf last.pass seat
    own_last are = are.own (length list) last seat at_last (seat_last are)

    pub whole_front : AreWhole all_seats → AreWhole seats
    whole_front whole = λ k one also. whole k one (seat_front k one also)

    pub whole_last : AreSeats all all_seats → AreWhole all_seats → handed_of seat ≡ 16
    whole_last are whole = whole (length list) seat (seat_last are)

    reached_front : (stores : List StoreWords) → GaveReached stores all all_seats → GaveReached stores list seats
    reached_front stores reached = λ k it one at also. reached k it one (at_front k it at) (seat_front k one also)

    given_front : (stores : List StoreWords) (writes : List Write) → AreGiven stores all all_seats writes → AreGiven stores list seats writes
    given_front stores writes given = λ k it one at also. given k it one (at_front k it at) (seat_front k one also)

    module _ (own : AreSeats all all_seats) (sum : Sum) (layouts : sum.layout ≡ last.layout) (fields : sum.field ≡ last.field)
        (folds : AreFolded (operator_of last.pass) (type_of last.pass) (old_values last.pass) (given_of seat) (words_of sum)) where
      -- the row of the last
      row_last : (stores : List StoreWords) → ArePasses stores all → GaveReached stores all all_seats → HasRow stores sum
      row_last stores are reached = λ store there.
          let pass = are.each (length list) last at_last in
          let same : pass.store ≡ store = same_Some _ _ (sym pass.there ∙ ap (slice_get stores) (sym layouts) ∙ there) in (
            subst (λ (f : ℕ). f < length store.shape.fields) (sym fields)
                (subst (λ (s : StoreWords). last.field < length s.shape.fields) same (slice_get_within pass.store.shape.fields last.field (type_of last.pass) pass.field)),
            subst (λ (s : StoreWords). IsFieldFront s (words_of sum)) same
                (sum_row stores last pass (given_of seat) (words_of sum) folds (reached (length list) last seat at_last (seat_last own))),
          )

      sum_last : (stores : List StoreWords) (writes : List Write) → ArePasses stores all → AreGiven stores all all_seats writes → IsSumOf stores sum.layout sum.field (words_of sum) writes
      sum_last stores writes are given = record {
        it = last;
        given = given_of seat;
        layout_is = sym layouts;
        field_is = sym fields;
        pass = are.each (length list) last at_last;
        is_given = given (length list) last seat at_last (seat_last own);
        folds = folds;
      }

      -- what the last pass made of its field is added, and then what the others made of theirs
      pub adds_last : (olds news : List Sum) → AddsSums list seats (olds ++ sum ∷ []) news → AddsSums all all_seats olds news
      adds_last olds news later = record {
        more = sum ∷ later.more;
        added = later.added ∙ append_assoc olds (sum ∷ []) later.more;
        of_passes = All-cons (λ (it : Sum). HasPass all it.layout it.field) sum later.more
            (record { number = length list; it = last; there = at_last; layout_is = sym layouts; field_is = sym fields })
            (λ k d below. has_front (get_or later.more k d).layout (get_or later.more k d).field (later.of_passes k d below));
        rows = λ stores are reached. All-cons (HasRow stores) sum later.more (row_last stores are reached) (later.rows stores (passes_front stores are) (reached_front stores reached));
        sums = λ stores writes are given.
            let rest = later.sums stores writes (passes_front stores are) (given_front stores writes given) in (
              record {
                each = All-cons (λ (it : Sum). IsSumOf stores it.layout it.field (words_of it) writes) sum later.more (sum_last stores writes are given) rest.0.each;
                apart = AllPairs-cons (λ (one other : Sum). one.layout ≡ other.layout → one.field ≡ other.field → ⊥) sum later.more
                    (λ k d below same there. apart_last stores are (get_or later.more k d).layout (get_or later.more k d).field (later.of_passes k d below) (sym layouts ∙ same) (sym fields ∙ there))
                    rest.0.apart;
              },
              (ap (λ (l : ℕ). into_field l sum.field writes ++ summed later.more writes) layouts
                  ∙ ap (λ (f : ℕ). into_field last.layout f writes ++ summed later.more writes) fields
                  ∙ ap (λ (ws : List Write). into_field last.layout last.field writes ++ ws) rest.1
                  ∙ sym (passed_snoc list last writes)
                  ∙ ap (λ (xs : List Accumulated). passed xs writes) (sym is)),
            );
      }

-- without a pass nothing is added
pub adds_nothing : (list : List Accumulated) (seats : List AccSeat) (olds : List Sum) → length list ≡ 0 → AddsSums list seats olds olds
adds_nothing list seats olds none = record {
  more = [];
  added = sym (append-nil olds);
  of_passes = All-nil (λ (it : Sum). HasPass list it.layout it.field);
  rows = λ stores are reached. All-nil (HasRow stores);
  sums = λ stores writes are given. (
    record {
      each = All-nil (λ (it : Sum). IsSumOf stores it.layout it.field (words_of it) writes);
      apart = λ i j d less below. absurd (omega (arith, below));
    },
    ap (λ (xs : List Accumulated). passed xs writes) (sym (empty_list list none)),
  );
}

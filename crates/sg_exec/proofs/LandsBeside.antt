-- What a run made lands as well in stores that are the same wherever it lands.
use Rattle.std.proofs.Common.{◌≡◌, ℕ, ◌+◌, Bool, true, false, not, ◌&&◌, ◌==◌, cond, inl, inr, ◌⊎◌, List, [], ◌∷◌, ◌++◌, map, length, Option, refl, sym, ap, ◌∙◌, subst, arith}
use Rattle.std.specs.Prelude.{slice_get, Contains}
use Rattle.std.specs.List.{AllZip}
use Rattle.std.specs.Option.{option_and_then}
use Rattle.std.proofs.lemmas.Bool.{cases_Bool, cond-false, and_left, and_right, and_parts, eqb-true}
use Rattle.std.proofs.lemmas.List.Elements.{All-contains, Contains-append_cases}
use Rattle.sg_words.proofs.Uses.{contains_none, contains_head, contains_rest, into_map, from_filter}
use Rattle.sg_coord.specs.declared.coord.Coord.{Coord}
use Rattle.sg_layout.specs.declared.shape.Shape.{Shape}
use Rattle.sg_flat.specs.declared.effects.Write.{Write}
use Rattle.sg_flat.specs.declared.state.FlatLayout.{FlatLayout}
use Rattle.sg_accum.specs.Folding.{given_to}
use Rattle.sg_store.specs.StoreWords.{StoreWords}
use Rattle.sg_store.specs.StandsFor.{StandsFor}
use Rattle.sg_store.specs.Walks.{cell_in}
use Rattle.sg_ir.specs.Runs.{is_own}
use Rattle.sg_exec.specs.declared.lanes.cell_write.CellWrite.{CellWrite}
use Rattle.sg_exec.specs.declared.results.made.Ended.{Ended}
use Rattle.sg_exec.specs.declared.results.sums.Sum.{Sum}
use Rattle.sg_exec.specs.Standing.{shapes_of}
use Rattle.sg_exec.specs.steps.Landing.{code_write, landing}
use Rattle.sg_exec.specs.steps.Racing.{contributions, given_by, given_at, joining, ComeTo}
use Rattle.sg_exec.specs.steps.Passes.{IsSumOf, to_field, into_field}
use Rattle.sg_exec.specs.steps.Made.{AreSums, HasLanded, HasPut, summed, words_of}
use Rattle.sg_exec.specs.steps.Puts.{kept_writes}
use Rattle.sg_exec.proofs.RacedRun.{all_from}
use Rattle.sg_exec.proofs.Mixed.{mixed, mixed_true, mixed_false, mixed_is, mixed_long, mixed_shapes, shapes_long, Into, lands_beside}

-- each sum is of a layout whose number passes a test, and each kept write goes into one
pub record EndsInto (test : ℕ → Bool) (ended : Ended) : Type 0 where
  pub sums : (sum : Sum) → Contains ended.sums.items sum → test sum.layout ≡ true
  pub puts : (write : CellWrite) → Contains (kept_writes ended.puts) write → test write.layout ≡ true

-- ---- writes

-- a write as it is kept, by the store that its layout has
abbrev landing_by : Option StoreWords → List Shape → Write → CellWrite
landing_by found shapes write = record {
  layout = write.layout;
  place = write.place;
  cell = option_and_then (λ (there : Coord). option_and_then (λ (store : StoreWords). cell_in store there) found) (code_write shapes write).at;
  way = write.way;
  value = write.value;
}

landing_same : (one other : List StoreWords) (write : Write) → shapes_of one ≡ shapes_of other → slice_get one write.layout ≡ slice_get other write.layout → landing one write ≡ landing other write
landing_same one other write shapes same =
    ap (λ (ss : List Shape). landing_by (slice_get one write.layout) ss write) shapes ∙ ap (λ (found : Option StoreWords). landing_by found (shapes_of other) write) same

map_same : {X Y : Type 0} (f g : X → Y) (xs : List X) → ((x : X) → Contains xs x → f x ≡ g x) → map f xs ≡ map g xs
map_same f g [] same = refl
map_same {X} {Y} f g (x ∷ xs) same =
    ap (λ (y : Y). y ∷ map f xs) (same x (contains_head x x xs refl)) ∙ ap (λ (ys : List Y). g x ∷ ys) (map_same f g xs (λ z has. same z (contains_rest z x xs has)))

given_none : (own into_layout into_place : Bool) (found : Option ℕ) (value : ℕ) → into_layout ≡ false → cond (not own && (into_layout && into_place)) (given_at found value) [] ≡ []
given_none own into_layout into_place found value elsewhere =
    cond-false (not own && (into_layout && into_place)) (given_at found value) [] (and_right (not own) _ (and_left into_layout into_place elsewhere))

contributions_same : (one other : List StoreWords) (layout field : ℕ) (writes : List Write) → shapes_of one ≡ shapes_of other → slice_get one layout ≡ slice_get other layout
    → contributions layout field (map (landing one) writes) ≡ contributions layout field (map (landing other) writes)
contributions_same one other layout field [] shapes same = refl
contributions_same one other layout field (write ∷ writes) shapes same =
    ap (λ (gs : List (ℕ × ℕ)). gs ++ contributions layout field (map (landing one) writes)) (by (cases_Bool (write.layout == layout)))
    ∙ ap (λ (gs : List (ℕ × ℕ)). given_by layout field (landing other write) ++ gs) (contributions_same one other layout field writes shapes same)
  where
    by : ((write.layout == layout) ≡ true) ⊎ ((write.layout == layout) ≡ false) → given_by layout field (landing one write) ≡ given_by layout field (landing other write)
    by (inl into) =
        let is : layout ≡ write.layout = sym (eqb-true write.layout layout into) in
        ap (given_by layout field) (landing_same one other write shapes (subst (λ (l : ℕ). slice_get one l ≡ slice_get other l) is same))
    by (inr elsewhere) =
        given_none (is_own write.way) (write.layout == layout) (write.place == field) (landing one write).cell write.value elsewhere
        ∙ sym (given_none (is_own write.way) (write.layout == layout) (write.place == field) (landing other write).cell write.value elsewhere)

-- ---- sums

sum_same : (one other : List StoreWords) (layout field : ℕ) (words : List ℕ) (writes : List Write) → shapes_of one ≡ shapes_of other → slice_get one layout ≡ slice_get other layout
    → IsSumOf one layout field words writes → IsSumOf other layout field words writes
sum_same one other layout field words writes shapes same sum =
    let its : slice_get one sum.it.layout ≡ slice_get other sum.it.layout = subst (λ (l : ℕ). slice_get one l ≡ slice_get other l) (sym sum.layout_is) same in
    record {
      it = sum.it;
      given = sum.given;
      layout_is = sum.layout_is;
      field_is = sum.field_is;
      pass = record {
        store = sum.pass.store;
        there = sym its ∙ sum.pass.there;
        field = sum.pass.field;
        operator = sum.pass.operator;
        order = sum.pass.order;
        is_front = sum.pass.is_front;
        words = sum.pass.words;
      };
      is_given = record {
        ways = sum.is_given.ways;
        given_is = λ cell. subst (λ (others : List ℕ). ComeTo (joining sum.it) (sum.given cell) others)
            (ap (given_to cell) (contributions_same one other sum.it.layout sum.it.field writes shapes its)) (sum.is_given.given_is cell);
      };
      folds = sum.folds;
    }

into_summed : (test : ℕ → Bool) (sums : List Sum) (writes : List Write) → ((sum : Sum) → Contains sums sum → test sum.layout ≡ true) → Into test (summed sums writes)
into_summed test [] writes into write has = absurd (contains_none write has)
into_summed test (sum ∷ sums) writes into write has = elim (Contains-append_cases (into_field sum.layout sum.field writes) (summed sums writes) write has) [
  | inl of_sum ↦ (
      let passes : to_field sum.layout sum.field write ≡ true = (from_filter (to_field sum.layout sum.field) writes write of_sum).1 in
      ap test (eqb-true write.layout sum.layout (and_parts (write.layout == sum.layout) (write.place == sum.field) passes).0) ∙ into sum (contains_head sum sum sums refl)
      )
  | inr later ↦ into_summed test sums writes (λ one of. into one (contains_rest one sum sums of)) write later
]

-- ---- what has landed

module _ (test : ℕ → Bool) (olds twins rest : List StoreWords) (others : List FlatLayout) (ended : Ended) (news : List StoreWords) (into : EndsInto test ended) (long : length olds ≡ length rest)
    (shapes : shapes_of rest ≡ shapes_of olds) (standing : AllZip StandsFor rest others) (same : (i : ℕ) → test i ≡ true → slice_get twins i ≡ slice_get olds i) (is : twins ≡ mixed test 0 olds rest) (put : HasPut twins ended news) where
  abbrev twin_mids : List StoreWords
  twin_mids = put.landed.mids

  abbrev mids : List StoreWords
  mids = mixed test 0 put.landed.mids olds

  abbrev pub ends : List StoreWords
  ends = mixed test 0 news mids

  zero_plus : (n : ℕ) → 0 + n ≡ n
  zero_plus n = omega arith

  at_zero : (i : ℕ) (b : Bool) → test (0 + i) ≡ b → test i ≡ b
  at_zero i b passes = ap test (sym (zero_plus i)) ∙ passes

  from_zero : (i : ℕ) (b : Bool) → test i ≡ b → test (0 + i) ≡ b
  from_zero i b passes = ap test (zero_plus i) ∙ passes

  twin_shapes : shapes_of twins ≡ shapes_of olds
  twin_shapes = ap shapes_of is ∙ mixed_shapes test 0 olds rest (sym shapes) ∙ shapes

  twins_long : length twins ≡ length olds
  twins_long = shapes_long twins olds twin_shapes

  twin_mids_long : length twin_mids ≡ length olds
  twin_mids_long = shapes_long twin_mids olds (put.mids_shapes ∙ twin_shapes)

  mids_long : length mids ≡ length olds
  mids_long = mixed_long test 0 twin_mids olds twin_mids_long

  news_long : length news ≡ length olds
  news_long = shapes_long news olds (put.news_shapes ∙ put.mids_shapes ∙ twin_shapes)

  -- elsewhere nothing is as it would be
  twins_elsewhere : (i : ℕ) → test i ≡ false → slice_get twins i ≡ slice_get rest i
  twins_elsewhere i fails = ap (λ (ss : List StoreWords). slice_get ss i) is ∙ mixed_false test 0 i olds rest long (from_zero i false fails)

  no_sum : (i : ℕ) → test i ≡ false → (sum : Sum) → Contains ended.sums.items sum → sum.layout ≡ i → ⊥
  no_sum i fails sum has there = absurd (cc (into.sums sum has, ap test there, fails))

  no_put : (i : ℕ) → test i ≡ false → (write : CellWrite) → Contains (kept_writes ended.puts) write → write.layout ≡ i → ⊥
  no_put i fails write has there = absurd (cc (into.puts write has, ap test there, fails))

  mids_is : twin_mids ≡ mixed test 0 mids rest
  mids_is = mixed_is test 0 mids rest twin_mids (twin_mids_long ∙ sym mids_long) (twin_mids_long ∙ long)
      (λ i passes. sym (mixed_true test 0 i twin_mids olds twin_mids_long passes))
      (λ i fails. put.mids_same i (no_sum i (at_zero i false fails)) ∙ twins_elsewhere i (at_zero i false fails))

  pub news_is : news ≡ mixed test 0 ends rest
  news_is = mixed_is test 0 ends rest news (sym (mixed_long test 0 news mids (news_long ∙ sym mids_long) ∙ mids_long ∙ sym news_long)) (news_long ∙ long)
      (λ i passes. sym (mixed_true test 0 i news mids (news_long ∙ sym mids_long) passes))
      (λ i fails. put.news_same i (no_put i (at_zero i false fails)) ∙ put.mids_same i (no_sum i (at_zero i false fails)) ∙ twins_elsewhere i (at_zero i false fails))

  mids_shapes : shapes_of mids ≡ shapes_of olds
  mids_shapes = mixed_shapes test 0 twin_mids olds (put.mids_shapes ∙ twin_shapes)

  sums_are : (writes : List Write) → AreSums olds ended.sums.items writes → AreSums twins ended.sums.items writes
  sums_are writes are = record {
    each = all_from (λ (sum : Sum). IsSumOf twins sum.layout sum.field (words_of sum) writes) ended.sums.items
        (λ sum has. sum_same olds twins sum.layout sum.field (words_of sum) writes (sym twin_shapes) (sym (same sum.layout (into.sums sum has)))
        (All-contains (λ (it : Sum). IsSumOf olds it.layout it.field (words_of it) writes) ended.sums.items sum are.each has));
    apart = are.apart;
  }

  puts_into : (made : List Write) → kept_writes ended.puts ≡ map (landing olds) made → Into test made
  puts_into made given write has = into.puts (landing olds write) (subst (λ (ws : List CellWrite). Contains ws (landing olds write)) (sym given) (into_map (landing olds) made write has))

  puts_are : (made : List Write) → kept_writes ended.puts ≡ map (landing olds) made → kept_writes ended.puts ≡ map (landing twins) made
  puts_are made given = given
      ∙ map_same (landing olds) (landing twins) made (λ write has. landing_same olds twins write (sym twin_shapes) (sym (same write.layout (puts_into made given write has))))

  pub has_landed : HasLanded olds ended ends
  has_landed = record {
    mids = mids;
    sums_land = λ writes are.
        lands_beside test olds twins twin_mids rest others (summed ended.sums.items writes) is standing shapes (into_summed test ended.sums.items writes into.sums)
        (put.landed.sums_land writes (sums_are writes are));
    puts_land = λ made given.
        lands_beside test mids twin_mids news rest others made mids_is standing (shapes ∙ sym mids_shapes) (puts_into made given) (put.landed.puts_land made (puts_are made given));
  }

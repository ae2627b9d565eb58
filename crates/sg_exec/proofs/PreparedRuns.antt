-- What was prepared over stores holds over others that are the same wherever the kernel touches them.
use Rattle.std.proofs.Common.{◌≡◌, ℕ, zero, suc, ◌+◌, ◌<◌, ◌≤◌, Bool, true, List, [], ◌∷◌, length, get_or, Option, Some, None, Result, Ok, Err, refl, sym, ap, ◌∙◌, subst, arith}
use Rattle.std.specs.Prelude.{slice_get, unwrap_or, Contains, All, IfOk, IfSome, vec_capacity}
use Rattle.std.specs.Result.{IsOkAnd}
use Rattle.std.specs.List.{AllZip}
use Rattle.std.proofs.lemmas.Bool.{both_ways}
use Rattle.std.proofs.lemmas.List.Elements.{All-contains}
use Rattle.std.proofs.lemmas.Option.{same_Some, slice_get_read, slice_get_within}
use Rattle.sg_words.specs.declared.memory.Stop.{Stop}
use Rattle.sg_words.specs.declared.memory.Stop.TheVariants as stop
use Rattle.sg_layout.specs.declared.shape.Shape.{Shape}
use Rattle.sg_layout.specs.Need.{first_full}
use Rattle.sg_flat.specs.declared.effects.RunFault.{RunFault}
use Rattle.sg_flat.specs.declared.state.FlatLayout.{FlatLayout}
use Rattle.sg_flat.specs.declared.state.FlatState.{FlatState}
use Rattle.sg_flat.specs.State.{IsFlatLayout}
use Rattle.sg_flat.specs.Wants.{UnwrittenStays}
use Rattle.sg_store.specs.StoreWords.{StoreWords}
use Rattle.sg_store.specs.StandsFor.{StandsFor}
use Rattle.sg_store.specs.StoreLaws.{StandsForOne, StandsHasRoom}
use Rattle.sg_store.specs.WellFormed.{IsWellFormed}
use Rattle.sg_store.specs.Links.{GrowsLinks}
use Rattle.sg_ir.specs.declared.code.KernelCode.{KernelCode}
use Rattle.sg_ir.specs.Touches.{layouts_written, layouts_touched, is_among, ReadsDecide}
use Rattle.sg_exec.specs.declared.lanes.cell_write.CellWrite.{CellWrite}
use Rattle.sg_exec.specs.declared.results.made.Made.{Made}
use Rattle.sg_exec.specs.declared.results.sums.Sum.{Sum}
use Rattle.sg_exec.specs.Standing.{shapes_of, StandForState}
use Rattle.sg_exec.specs.Running.{run_meaning}
use Rattle.sg_exec.specs.Preparing.{AreSameWhereTouched, KeepsUnwritten, IsMadeFor, HasLandedIn, Prepared}
use Rattle.sg_exec.specs.steps.Landing.{current}
use Rattle.sg_exec.specs.steps.Machines.{IsCellOf}
use Rattle.sg_exec.specs.steps.Made.{HasRow, MadeRan}
use Rattle.sg_exec.specs.steps.Puts.{kept_writes}
use Rattle.sg_exec.proofs.OneWrite.{contains_at}
use Rattle.sg_exec.proofs.StoreLists.{flat_at, store_at, no_flat_at, shape_at}
use Rattle.sg_exec.proofs.StoresLanded.{current_length, current_got, no_current}
use Rattle.sg_exec.proofs.RacedRun.{all_from}
use Rattle.sg_exec.proofs.LinksKept.{links_current}
use Rattle.sg_exec.proofs.Settling.{current_shapes}
use Rattle.sg_exec.proofs.Mixed.{mixed, mixed_is, mixed_stand, shapes_long, stand_long}
use Rattle.sg_exec.proofs.LandsBeside.{EndsInto, ends, news_is, has_landed}
use Rattle.sg_exec.proofs.LocalRuns.{among_from, from_among, written_touched, AreBeside, refused_same, done_beside}

-- ---- copies in the places of stores

-- a store is the same in both lists once the copies are in their places
current_same : (copies : List (Option StoreWords)) (one other : List StoreWords) (i : ℕ) → slice_get one i ≡ slice_get other i → slice_get (current copies one) i ≡ slice_get (current copies other) i
current_same copies one other i same = by (slice_get one i) refl
  where
    by : (found : Option StoreWords) → slice_get one i ≡ found → slice_get (current copies one) i ≡ slice_get (current copies other) i
    by None is = no_current copies one i is ∙ sym (no_current copies other i (sym same ∙ is))
    by (Some store) is = current_got copies one i store is ∙ sym (current_got copies other i store (sym same ∙ is))

-- without a copy it stays
current_kept : (copies : List (Option StoreWords)) (stores : List StoreWords) (i : ℕ) → length copies ≡ length stores → ((copy : StoreWords) → slice_get copies i ≡ Some (Some copy) → ⊥)
    → slice_get (current copies stores) i ≡ slice_get stores i
current_kept copies stores i long none = by (slice_get stores i) refl
  where
    by_copy : (store : StoreWords) (copy : Option StoreWords) → slice_get stores i ≡ Some store → get_or copies i None ≡ copy → Some (unwrap_or (get_or copies i None) store) ≡ Some store
    by_copy store None at is = ap (λ (c : Option StoreWords). Some (unwrap_or c store)) is
    by_copy store (Some copy) at is = absurd (none copy (slice_get_read copies (length copies) i (Some copy) refl (below store at) (sym (ap (λ (c : Option StoreWords). c) (other_default copies i (Some copy) (below store at)) ∙ is))))
      where
        below : (s : StoreWords) → slice_get stores i ≡ Some s → i < length copies
        below s there = subst (λ (n : ℕ). i < n) (sym long) (slice_get_within stores i s there)

        other_default : (xs : List (Option StoreWords)) (k : ℕ) (d : Option StoreWords) → k < length xs → get_or xs k d ≡ get_or xs k None
        other_default [] k d low = absurd (omega (arith, low))
        other_default (x ∷ xs) zero d low = refl
        other_default (x ∷ xs) (suc k) d low = other_default xs k d (omega (arith, low))

    by : (found : Option StoreWords) → slice_get stores i ≡ found → slice_get (current copies stores) i ≡ slice_get stores i
    by None is = no_current copies stores i is ∙ sym is
    by (Some store) is = current_got copies stores i store is ∙ by_copy store (get_or copies i None) is refl ∙ sym is

-- ---- what a kernel doesn't write

pub kept_unwritten : (kernel : KernelCode) (stores : List StoreWords) (made : Made) (news : List StoreWords) → IsMadeFor kernel stores made → HasLandedIn stores made news → KeepsUnwritten kernel stores news
kept_unwritten kernel stores made news for_it landed layout unwritten =
    landed.news_same layout (λ write has there. unwritten (subst (Contains (layouts_written kernel)) there (for_it.puts write has)))
    ∙ landed.mids_same layout (λ sum has there. unwritten (subst (Contains (layouts_written kernel)) there (for_it.sums sum has)))
    ∙ current_kept made.copies.items stores layout for_it.lands.copies (λ copy is. unwritten (for_it.copies layout copy is))

-- ---- over other stores

zip_at : (R : StoreWords → StoreWords → Type 0) (xs ys : List StoreWords) (i : ℕ) (x y : StoreWords) → AllZip R xs ys → slice_get xs i ≡ Some x → slice_get ys i ≡ Some y → R x y
zip_at R [] ys i x y all at at' = absurd (cc)
zip_at R (a ∷ xs) [] i x y all at at' = absurd (cc)
zip_at R (a ∷ xs) (b ∷ ys) zero x y all at at' = subst (λ (s : StoreWords). R s y) (same_Some a x at) (subst (R a) (same_Some b y at') all.0)
zip_at R (a ∷ xs) (b ∷ ys) (suc i) x y all at at' = zip_at R xs ys i x y all.1 at at'

module _ (kernel : KernelCode) (stores others : List StoreWords) (made : Made) (for_it : IsMadeFor kernel stores made) (same : AreSameWhereTouched kernel stores others) (long : length others ≡ length stores) where
  abbrev copies : List (Option StoreWords)
  copies = made.copies.items

  here : (layout : ℕ) → Contains (layouts_written kernel) layout → slice_get (current copies others) layout ≡ slice_get (current copies stores) layout
  here layout has = current_same copies others stores layout (same layout (written_touched kernel layout has))

  was : (j : ℕ) (store copy : StoreWords) → slice_get others j ≡ Some store → slice_get copies j ≡ Some (Some copy) → slice_get stores j ≡ Some store
  was j store copy at is = sym (same j (written_touched kernel j (for_it.copies j copy is))) ∙ at

  has_copy : (j : ℕ) (store copy : StoreWords) → slice_get stores j ≡ Some store → slice_get copies j ≡ Some (Some copy) → slice_get (current copies stores) j ≡ Some copy
  has_copy j store copy at is = current_got copies stores j store at ∙ ap (λ (c : Option StoreWords). Some (unwrap_or c store)) (got copies j (Some copy) is)
    where
      got : (xs : List (Option StoreWords)) (k : ℕ) (x : Option StoreWords) → slice_get xs k ≡ Some x → get_or xs k None ≡ x
      got [] k x there = absurd (cc)
      got (y ∷ xs) zero x there = same_Some y x there
      got (y ∷ xs) (suc k) x there = got xs k x there

  links_at : (j : ℕ) (store : StoreWords) (copy : Option StoreWords) → slice_get others j ≡ Some store → slice_get copies j ≡ Some copy → GrowsLinks store (unwrap_or copy store)
  links_at j store None at is = λ index link there. there
  links_at j store (Some copy) at is =
      zip_at GrowsLinks stores (current copies stores) j store copy for_it.lands.links (was j store copy at is) (has_copy j store copy (was j store copy at is) is)

  shape_there : (j : ℕ) (store : StoreWords) (copy : Option StoreWords) → slice_get others j ≡ Some store → slice_get copies j ≡ Some copy → (unwrap_or copy store).shape ≡ store.shape
  shape_there j store None at is = refl
  shape_there j store (Some copy) at is =
      same_Some copy.shape store.shape
      (sym (shape_at (current copies stores) j copy (has_copy j store copy (was j store copy at is) is))
      ∙ ap (λ (ss : List Shape). slice_get ss j) for_it.shapes ∙ shape_at stores j store (was j store copy at is))

  row_there : (sum : Sum) → Contains made.ended.sums.items sum → HasRow (current copies others) sum
  row_there sum has store at =
      All-contains (HasRow (current copies stores)) made.ended.sums.items sum for_it.lands.rows has store (sym (here sum.layout (for_it.sums sum has)) ∙ at)

  cell_there : (layout : ℕ) (cell : Option ℕ) → slice_get (current copies others) layout ≡ slice_get (current copies stores) layout → IfSome cell (IsCellOf (current copies stores) layout) → IfSome cell (IsCellOf (current copies others) layout)
  cell_there layout None is of = tt
  cell_there layout (Some cell) is of = record { store = of.store; there = is ∙ of.there; reached = of.reached }

  -- what was made for a kernel is so over the others too
  pub is_for_others : IsMadeFor kernel others made
  is_for_others = record {
    lands = record {
      copies = for_it.lands.copies ∙ sym long;
      links = links_current copies others (for_it.lands.copies ∙ sym long) links_at;
      rows = all_from (HasRow (current copies others)) made.ended.sums.items row_there;
      cells = all_from (λ (write : CellWrite). IfSome write.cell (IsCellOf (current copies others) write.layout)) (kept_writes made.ended.puts)
          (λ write has. cell_there write.layout write.cell (here write.layout (for_it.puts write has))
          (All-contains (λ (it : CellWrite). IfSome it.cell (IsCellOf (current copies stores) it.layout)) (kept_writes made.ended.puts) write for_it.lands.cells has));
      none = for_it.lands.none;
      space = subst (λ (n : ℕ). n ≤ vec_capacity made.room) (sym long) for_it.lands.space;
    };
    shapes = current_shapes copies others (for_it.lands.copies ∙ sym long) shape_there;
    copies = for_it.copies;
    sums = for_it.sums;
    puts = for_it.puts;
  }

-- what was prepared over stores was so over the others
pub prepared_others : (shapes : List Shape) (kernel : KernelCode) (stores others : List StoreWords) (result : Result Made (Stop RunFault)) → AreSameWhereTouched kernel stores others
    → Prepared shapes kernel stores result → Prepared shapes kernel others result
prepared_others shapes kernel stores others (Ok made) same prepared =
    λ third state well stand same' news landed. prepared third state well stand (λ layout has. same' layout has ∙ same layout has) news landed
prepared_others shapes kernel stores others (Err stop.Memory) same prepared = tt
prepared_others shapes kernel stores others (Err (stop.Refused fault)) same prepared =
    λ third state well stand same'. prepared third state well stand (λ layout has. same' layout has ∙ same layout has)

-- ---- at the states that both stand for

-- the laws by which a run depends on what its kernel touches alone
pub record LocalLaws : Type 0 where
  pub stays : UnwrittenStays
  pub reads : ReadsDecide
  pub one : (store : StoreWords) → StandsForOne store
  pub room : (store : StoreWords) → StandsHasRoom store

module _ (laws : LocalLaws) (shapes : List Shape) (kernel : KernelCode) (stores others : List StoreWords) (state other : FlatState) (stand : StandForState shapes stores state) (stand' : StandForState shapes others other)
    (well : All IsWellFormed stores) (well' : All IsWellFormed others) (same : AreSameWhereTouched kernel stores others) where
  abbrev test : ℕ → Bool
  test = is_among (layouts_written kernel)

  layouts_long : length state.layouts ≡ length other.layouts
  layouts_long = sym (stand_long stores state.layouts stand.stand) ∙ shapes_long stores others (stand.shapes_are ∙ sym stand'.shapes_are) ∙ stand_long others other.layouts stand'.stand

  same_flats : (layout : ℕ) → Contains (layouts_touched kernel) layout → slice_get state.layouts layout ≡ slice_get other.layouts layout
  same_flats layout has = by (slice_get stores layout) refl
    where
      by : (found : Option StoreWords) → slice_get stores layout ≡ found → slice_get state.layouts layout ≡ slice_get other.layouts layout
      by None is = no_flat_at stores state.layouts layout stand.stand is ∙ sym (no_flat_at others other.layouts layout stand'.stand (same layout has ∙ is))
      by (Some store) is =
          let mine = flat_at stores state.layouts layout store stand.stand is in
          let its = flat_at others other.layouts layout store stand'.stand (same layout has ∙ is) in
          mine.1 ∙ ap (λ (l : FlatLayout). Some l) (laws.one store (All-contains IsWellFormed stores store well (contains_at stores layout store is)) mine.0 its.0 mine.2 its.2) ∙ sym its.1

  room_of : (list : List StoreWords) (flats : List FlatLayout) → All IsWellFormed list → AllZip StandsFor list flats → shapes_of list ≡ shapes
      → (i : ℕ) (shape : Shape) (flat : FlatLayout) → slice_get shapes i ≡ Some shape → slice_get flats i ≡ Some flat → (store : StoreWords) × (store.shape ≡ shape) × StandsFor store flat × (first_full shape flat.active ≡ None)
  room_of list flats good all are i shape flat at at_flat =
      let found = store_at list flats i flat all at_flat in
      let is : found.0.shape ≡ shape = same_Some found.0.shape shape (sym (shape_at list i found.0 found.1) ∙ ap (λ (ss : List Shape). slice_get ss i) are ∙ at) in
      (found.0, is, found.2, subst (λ (s : Shape). first_full s flat.active ≡ None) is (laws.room found.0 (All-contains IsWellFormed list found.0 good (contains_at list i found.0 found.1)) flat found.2))

  are_beside : AreBeside test 0 shapes state.layouts other.layouts
  are_beside i shape flat next at at_flat at_next =
      let mine = room_of stores state.layouts well stand.stand stand.shapes_are i shape flat at at_flat in
      let its = room_of others other.layouts well' stand'.stand stand'.shapes_are i shape next at at_next in
      record {
        same = λ passes. same_Some flat next (sym at_flat ∙ same_flats i (written_touched kernel i (from_among (layouts_written kernel) i (ap test (zero_plus i) ∙ passes))) ∙ at_next);
        room = mine.3;
        other_room = its.3;
        other_flat = subst (λ (s : Shape). IsFlatLayout s next) its.1 its.2.is_flat;
      }
    where
      zero_plus : (n : ℕ) → n ≡ 0 + n
      zero_plus n = omega arith

  pub refused_there : (fault : RunFault) → run_meaning shapes state kernel ≡ Err fault → run_meaning shapes other kernel ≡ Err fault
  refused_there fault is = refused_same laws.stays laws.reads shapes kernel state other layouts_long same_flats are_beside fault is

  -- ---- what was made lands in the others

  module _ (made : Made) (for_it : IsMadeFor kernel stores made) (ran : MadeRan stores (Ok made) (run_meaning shapes state kernel)) (news : List StoreWords) (landed : HasLandedIn others made news) where
    abbrev olds : List StoreWords
    olds = current made.copies.items stores

    abbrev twins : List StoreWords
    twins = current made.copies.items others

    others_long : length others ≡ length stores
    others_long = shapes_long others stores (stand'.shapes_are ∙ sym stand.shapes_are)

    olds_long : length olds ≡ length others
    olds_long = current_length made.copies.items stores ∙ sym others_long

    twins_same : (i : ℕ) → test i ≡ true → slice_get twins i ≡ slice_get olds i
    twins_same i passes = current_same made.copies.items others stores i (same i (written_touched kernel i (from_among (layouts_written kernel) i passes)))

    twins_are : twins ≡ mixed test 0 olds others
    twins_are = mixed_is test 0 olds others twins (current_length made.copies.items others ∙ sym olds_long) (current_length made.copies.items others)
        (λ i passes. twins_same i (ap test (zero_plus i) ∙ passes))
        (λ i fails. current_kept made.copies.items others i (for_it.lands.copies ∙ sym others_long)
        (λ copy is. both_ways (test i) (ap test (zero_plus i) ∙ fails) (among_from (layouts_written kernel) i (for_it.copies i copy is))))
      where
        zero_plus : (n : ℕ) → n ≡ 0 + n
        zero_plus n = omega arith

    into : EndsInto test made.ended
    into = record {
      sums = λ sum has. among_from (layouts_written kernel) sum.layout (for_it.sums sum has);
      puts = λ write has. among_from (layouts_written kernel) write.layout (for_it.puts write has);
    }

    olds_shapes : shapes_of olds ≡ shapes
    olds_shapes = for_it.shapes ∙ stand.shapes_are

    abbrev mine : List StoreWords
    mine = ends test olds twins others other.layouts made.ended news into olds_long (stand'.shapes_are ∙ sym olds_shapes) stand'.stand twins_same twins_are landed

    landed_mine : IsOkAnd (run_meaning shapes state kernel) (StandForState (shapes_of stores) mine)
    landed_mine = ran mine (has_landed test olds twins others other.layouts made.ended news into olds_long (stand'.shapes_are ∙ sym olds_shapes) stand'.stand twins_same twins_are landed)

    news_are : news ≡ mixed test 0 mine others
    news_are = news_is test olds twins others other.layouts made.ended news into olds_long (stand'.shapes_are ∙ sym olds_shapes) stand'.stand twins_same twins_are landed

    news_shapes : shapes_of news ≡ shapes
    news_shapes = landed.news_shapes ∙ landed.mids_shapes ∙ is_shapes
      where
        is_shapes : shapes_of twins ≡ shapes
        is_shapes = (is_for_others kernel stores others made for_it same others_long).shapes ∙ stand'.shapes_are

    pub lands_there : IsOkAnd (run_meaning shapes other kernel) (StandForState shapes news)
    lands_there = by (run_meaning shapes state kernel) refl landed_mine
      where
        by : (meaning : Result FlatState RunFault) → run_meaning shapes state kernel ≡ meaning → IsOkAnd meaning (StandForState (shapes_of stores) mine) → IsOkAnd (run_meaning shapes other kernel) (StandForState shapes news)
        by (Ok end) is stands =
            subst (λ (m : Result FlatState RunFault). IsOkAnd m (StandForState shapes news))
            (sym (done_beside laws.stays laws.reads shapes kernel state other layouts_long same_flats are_beside end is))
            (record {
              shapes_are = news_shapes;
              stand = subst (λ (ss : List StoreWords). AllZip StandsFor ss (mixed test 0 end.layouts other.layouts)) (sym news_are)
                  (mixed_stand test 0 mine others end.layouts other.layouts stands.stand stand'.stand);
            })
        by (Err fault) is stands = absurd stands

-- ---- what a call prepared

pub prepared_here : (laws : LocalLaws) (shapes : List Shape) (kernel : KernelCode) (stores : List StoreWords) (state : FlatState) (result : Result Made (Stop RunFault)) → StandForState shapes stores state → All IsWellFormed stores
    → IfOk result (IsMadeFor kernel stores) → MadeRan stores result (run_meaning shapes state kernel) → Prepared shapes kernel stores result
prepared_here laws shapes kernel stores state (Ok made) stand well for_it ran = λ others other well' stand' same news landed.
    lands_there laws shapes kernel stores others state other stand stand' well well' same made for_it ran news landed
prepared_here laws shapes kernel stores state (Err stop.Memory) stand well for_it ran = tt
prepared_here laws shapes kernel stores state (Err (stop.Refused fault)) stand well for_it ran = λ others other well' stand' same.
    refused_there laws shapes kernel stores others state other stand stand' well well' same fault ran

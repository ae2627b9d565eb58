-- Writes that land in a list of stores.
use Rattle.std.proofs.Common.{◌≡◌, ℕ, zero, suc, ◌+◌, ◌≤◌, ◌<◌, List, [], ◌∷◌, ◌++◌, length, get_or, Option, Some, None, refl, sym, ap, ◌∙◌, subst, arith}
use Rattle.std.specs.Prelude.{filter, slice_get, slice_set, Contains, unwrap_or}
use Rattle.std.specs.List.{AllZip}
use Rattle.std.proofs.lemmas.Option.{same_Some}
use Rattle.std.proofs.lemmas.List.Elements.{Contains-append_left, Contains-append_right}
use Rattle.sg_coord.specs.declared.coord.Coord.{Coord}
use Rattle.sg_coord.specs.Bounds.{Bounds}
use Rattle.sg_layout.specs.declared.shape.Shape.{Shape}
use Rattle.sg_layout.specs.Axes.{bounds_of_shape}
use Rattle.sg_flat.specs.declared.effects.Write.{Write}
use Rattle.sg_flat.specs.declared.state.FlatLayout.{FlatLayout}
use Rattle.sg_flat.specs.Effects.{is_to}
use Rattle.sg_store.specs.StoreWords.{StoreWords}
use Rattle.sg_store.specs.StandsFor.{StandsFor}
use Rattle.sg_words.proofs.Uses.{contains_head}
use Rattle.sg_exec.specs.Standing.{shapes_of}
use Rattle.sg_exec.specs.steps.Landing.{current, landed_layout, landed_layouts, Lands}
use Rattle.sg_exec.proofs.FieldsLanded.{landed_more, layout_kept}
use Rattle.sg_exec.proofs.OneWrite.{none_to, past_from_none}

abbrev made : List Coord → List (List (ℕ × ℕ)) → FlatLayout
made active fields = record { active = active; fields = fields }

-- ---- copies in the places of stores

pub current_length : (copies : List (Option StoreWords)) (stores : List StoreWords) → length (current copies stores) ≡ length stores
current_length [] stores = refl
current_length (copy ∷ copies) [] = refl
current_length (copy ∷ copies) (store ∷ stores) = ap suc (current_length copies stores)

pub current_at : (copies : List (Option StoreWords)) (stores : List StoreWords) (i : ℕ) (copy : Option StoreWords) (store : StoreWords)
    → slice_get copies i ≡ Some copy → slice_get stores i ≡ Some store → slice_get (current copies stores) i ≡ Some (unwrap_or copy store)
current_at [] stores i copy store c s = absurd (cc)
current_at (first ∷ copies) [] i copy store c s = absurd (cc)
current_at (first ∷ copies) (head ∷ stores) zero copy store c s = both first copy head store (same_Some _ _ c) (same_Some _ _ s)
  where
    both : (a b : Option StoreWords) (x y : StoreWords) → a ≡ b → x ≡ y → Some (unwrap_or a x) ≡ Some (unwrap_or b y)
    both a b x y p q = ap (λ (o : Option StoreWords). Some (unwrap_or o x)) p ∙ ap (λ (z : StoreWords). Some (unwrap_or b z)) q
current_at (first ∷ copies) (head ∷ stores) (suc i) copy store c s = current_at copies stores i copy store c s

pub current_got : (copies : List (Option StoreWords)) (stores : List StoreWords) (i : ℕ) (store : StoreWords)
    → slice_get stores i ≡ Some store → slice_get (current copies stores) i ≡ Some (unwrap_or (get_or copies i None) store)
current_got [] stores zero store s = s
current_got [] stores (suc i) store s = s
current_got (first ∷ copies) [] i store s = absurd (cc)
current_got (first ∷ copies) (head ∷ stores) zero store s = ap (λ (x : StoreWords). Some (unwrap_or first x)) (same_Some _ _ s)
current_got (first ∷ copies) (head ∷ stores) (suc i) store s = current_got copies stores i store s

pub current_set : (copies : List (Option StoreWords)) (stores : List StoreWords) (i : ℕ) (copy : Option StoreWords) (store : StoreWords)
    → length copies ≡ length stores → slice_get stores i ≡ Some store → current (slice_set copies i copy) stores ≡ slice_set (current copies stores) i (unwrap_or copy store)
current_set [] [] i copy store same s = absurd (cc)
current_set [] (head ∷ stores) i copy store same s = absurd (omega arith)
current_set (first ∷ copies) [] i copy store same s = absurd (cc)
current_set (first ∷ copies) (head ∷ stores) zero copy store same s =
    ap (λ (x : StoreWords). unwrap_or copy x ∷ current copies stores) (same_Some _ _ s)
current_set (first ∷ copies) (head ∷ stores) (suc i) copy store same s =
    ap (λ (rest : List StoreWords). unwrap_or first head ∷ rest) (current_set copies stores i copy store (omega arith) s)

pub no_current : (copies : List (Option StoreWords)) (stores : List StoreWords) (i : ℕ) → slice_get stores i ≡ None → slice_get (current copies stores) i ≡ None
no_current [] stores i none = none
no_current (first ∷ copies) [] i none = refl
no_current (first ∷ copies) (head ∷ stores) zero none = absurd (cc)
no_current (first ∷ copies) (head ∷ stores) (suc i) none = no_current copies stores i none

pub shapes_set : (stores : List StoreWords) (i : ℕ) (old now : StoreWords) → slice_get stores i ≡ Some old → now.shape ≡ old.shape → shapes_of (slice_set stores i now) ≡ shapes_of stores
shapes_set [] i old now s same = absurd (cc)
shapes_set (head ∷ stores) zero old now s same =
    ap (λ (x : Shape). x ∷ shapes_of stores) (same ∙ ap (λ (x : StoreWords). x.shape) (sym (same_Some _ _ s)))
shapes_set (head ∷ stores) (suc i) old now s same = ap (λ (rest : List Shape). head.shape ∷ rest) (shapes_set stores i old now s same)

-- ---- layouts into which no write goes

pub others_stand : (k : ℕ) (stores : List StoreWords) (flats : List FlatLayout) (writes : List Write) → AllZip StandsFor stores flats
    → ((bounds : Bounds) (layout other row : ℕ) → k ≤ layout → layout < k + length stores → filter (is_to bounds layout other row) writes ≡ [])
    → AllZip StandsFor stores (landed_layouts k (shapes_of stores) flats writes)
others_stand k [] [] writes stand none = tt
others_stand k [] (flat ∷ flats) writes stand none = absurd stand
others_stand k (store ∷ stores) [] writes stand none = absurd stand
others_stand k (store ∷ stores) (flat ∷ flats) writes stand none = (
  subst (λ (l : FlatLayout). StandsFor store l) (sym (layout_kept k store.shape flat writes stand.0.is_flat (λ other row. none (bounds_of_shape store.shape) k other row (omega arith) (omega arith)))) stand.0,
  others_stand (suc k) stores flats writes stand.1 (λ bounds layout other row from below. none bounds layout other row (omega arith) (omega arith)),
)

-- ---- one write

pub one_stands : (k i : ℕ) (stores : List StoreWords) (flats : List FlatLayout) (now : StoreWords) (write : Write) → AllZip StandsFor stores flats → write.layout ≡ k + i
    → ((old : StoreWords) (flat : FlatLayout) → slice_get stores i ≡ Some old → slice_get flats i ≡ Some flat → StandsFor old flat → StandsFor now (landed_layout write.layout old.shape flat (write ∷ [])))
    → AllZip StandsFor (slice_set stores i now) (landed_layouts k (shapes_of stores) flats (write ∷ []))
one_stands k i [] [] now write stand at step = tt
one_stands k i [] (flat ∷ flats) now write stand at step = absurd stand
one_stands k i (store ∷ stores) [] now write stand at step = absurd stand
one_stands k zero (store ∷ stores) (flat ∷ flats) now write stand at step = (
  subst (λ (l : ℕ). StandsFor now (landed_layout l store.shape flat (write ∷ []))) (omega arith) (step store flat refl refl stand.0),
  others_stand (suc k) stores flats (write ∷ []) stand.1 (λ bounds layout other row from below. none_to bounds layout other row write (λ same place rows. omega arith)),
)
one_stands k (suc i) (store ∷ stores) (flat ∷ flats) now write stand at step = (
  subst (λ (l : FlatLayout). StandsFor store l) (sym (layout_kept k store.shape flat (write ∷ []) stand.0.is_flat (λ other row. none_to (bounds_of_shape store.shape) k other row write (λ same place rows. omega arith)))) stand.0,
  one_stands (suc k) i stores flats now write stand.1 (omega arith) step,
)

pub lands_one : (olds : List StoreWords) (old now : StoreWords) (write : Write) → slice_get olds write.layout ≡ Some old → now.shape ≡ old.shape
    → ((flat : FlatLayout) → StandsFor old flat → Contains flat.active write.at → StandsFor now (landed_layout write.layout old.shape flat (write ∷ [])))
    → Lands olds (slice_set olds write.layout now) (write ∷ [])
lands_one olds old now write is shape step = record {
  same_shapes = shapes_set olds write.layout old now is shape;
  stand = λ flats stand active.
      one_stands 0 write.layout olds flats now write stand (sym (zero_plus write.layout))
      (λ it flat is_it is_flat stands.
      let same : old ≡ it = same_Some _ _ (sym is ∙ is_it) in
      subst (λ (s : StoreWords). StandsFor now (landed_layout write.layout s.shape flat (write ∷ []))) same
      (step flat (subst (λ (s : StoreWords). StandsFor s flat) (sym same) stands) (active write.layout flat write is_flat (contains_head write write [] refl) refl)));
}
  where
    zero_plus : (n : ℕ) → 0 + n ≡ n
    zero_plus n = omega arith

-- a write past the last layout
pub lands_past : (olds : List StoreWords) (write : Write) → slice_get olds write.layout ≡ None → Lands olds olds (write ∷ [])
lands_past olds write none = record {
  same_shapes = refl;
  stand = λ flats stand active.
      let past : length olds ≤ write.layout = past_from_none olds write.layout none in
      others_stand 0 olds flats (write ∷ []) stand (λ bounds layout other row from below. none_to bounds layout other row write (λ same place rows. omega arith));
}

-- ---- many writes

pub lands_nothing : (olds : List StoreWords) → Lands olds olds []
lands_nothing olds = record { same_shapes = refl; stand = λ flats stand active. others_stand 0 olds flats [] stand (λ bounds layout other row from below. refl) }

more_landed : (k : ℕ) (shapes : List Shape) (flats : List FlatLayout) (earlier later : List Write)
    → landed_layouts k shapes (landed_layouts k shapes flats earlier) later ≡ landed_layouts k shapes flats (earlier ++ later)
more_landed k [] flats earlier later = refl
more_landed k (shape ∷ shapes) [] earlier later = refl
more_landed k (shape ∷ shapes) (flat ∷ flats) earlier later =
    ap (λ (fs : List (List (ℕ × ℕ))). made flat.active fs ∷ landed_layouts (suc k) shapes (landed_layouts (suc k) shapes flats earlier) later) (landed_more (bounds_of_shape shape) k 0 shape.fields flat.fields earlier later)
    ∙ ap (λ (ls : List FlatLayout). landed_layout k shape flat (earlier ++ later) ∷ ls) (more_landed (suc k) shapes flats earlier later)

active_stays : (k : ℕ) (shapes : List Shape) (flats : List FlatLayout) (writes : List Write) (i : ℕ) (now : FlatLayout) → slice_get (landed_layouts k shapes flats writes) i ≡ Some now
    → (flat : FlatLayout) × (slice_get flats i ≡ Some flat) × (now.active ≡ flat.active)
active_stays k [] flats writes i now is = absurd (cc)
active_stays k (shape ∷ shapes) [] writes i now is = absurd (cc)
active_stays k (shape ∷ shapes) (flat ∷ flats) writes zero now is = (flat, refl, ap (λ (l : FlatLayout). l.active) (sym (same_Some _ _ is)))
active_stays k (shape ∷ shapes) (flat ∷ flats) writes (suc i) now is = active_stays (suc k) shapes flats writes i now is

pub lands_more : (olds mids news : List StoreWords) (earlier later : List Write) → Lands olds mids earlier → Lands mids news later → Lands olds news (earlier ++ later)
lands_more olds mids news earlier later first second = record {
  same_shapes = second.same_shapes ∙ first.same_shapes;
  stand = λ flats stand active.
      let mid = first.stand flats stand (λ number flat write is has same. active number flat write is (Contains-append_left earlier later write has) same) in
      let end = second.stand (landed_layouts 0 (shapes_of olds) flats earlier) mid
      (λ number now write is has same.
      let found = active_stays 0 (shapes_of olds) flats earlier number now is in
      subst (λ (ats : List Coord). Contains ats write.at) (sym found.2) (active number found.0 write found.1 (Contains-append_right earlier later write has) same)) in
      subst (λ (ls : List FlatLayout). AllZip StandsFor news ls)
      (ap (λ (shapes : List Shape). landed_layouts 0 shapes (landed_layouts 0 (shapes_of olds) flats earlier) later) first.same_shapes ∙ more_landed 0 (shapes_of olds) flats earlier later) end;
}

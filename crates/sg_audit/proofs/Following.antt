-- The tables of all layouts follow a line exactly if it is sound.
use Rattle.std.proofs.Common.{◌≡◌, ◌≢◌, ◌⊎◌, ℕ, zero, suc, ◌==◌, Bool, true, false, not, cond, ◌&&◌, List, [], ◌∷◌, Option, Some, None, refl, sym, ap, ◌∙◌, subst, arith, inl, inr}
use Rattle.std.specs.Prelude.{slice_get, slice_set, filter, map}
use Rattle.std.specs.List.{list_any}
use Rattle.std.proofs.lemmas.Bool.{both_ways, and_parts, cond-true, cond-false, eqb-true, false_from_ne_true}
use Rattle.std.proofs.lemmas.Option.{none-some, same_Some}
use Rattle.sg_journal.specs.declared.lines.Link.{Link}
use Rattle.sg_journal.specs.declared.lines.Line.TheVariants.{Take, Free}
use Rattle.sg_journal.specs.Journal.{Rooms, has_number, has_node, is_held, take_fits, is_sound_take, is_sound_free, follow}
use Rattle.sg_audit.specs.declared.table.NodeLink.{NodeLink}
use Rattle.sg_audit.specs.declared.table.NodeTable.{NodeTable}
use Rattle.sg_audit.specs.steps.Tables.{has_this, IsTable, parents_of, links_of, node_link, HaveRooms, AreTables, with_link, without, TakesLink, FreesNumber, Stand, FollowedAs, Follows}
use Rattle.sg_audit.proofs.HeldLinks.{held_at, links_other, but_number, links_apart}

-- ---- a list with an item in another's place

-- what stands at a place of it: the new item at that place, else what was there
pub set_cases : {X : Type 0} (xs : List X) (i : ℕ) (x y : X) (j : ℕ) (z : X) → slice_get xs i ≡ Some y → slice_get (slice_set xs i x) j ≡ Some z → ((j ≡ i) × (z ≡ x)) ⊎ ((j ≢ i) × (slice_get xs j ≡ Some z))
set_cases [] i x y j z at is = absurd (none-some y at)
set_cases (first ∷ xs) zero x y zero z at is = inl (refl, sym (same_Some x z is))
set_cases (first ∷ xs) zero x y (suc j) z at is = inr ((λ e. absurd (omega (arith, e))), is)
set_cases (first ∷ xs) (suc i) x y zero z at is = inr ((λ e. absurd (omega (arith, e))), is)
set_cases (first ∷ xs) (suc i) x y (suc j) z at is =
    elim (set_cases xs i x y j z at is) [
      | inl here ↦ inl (ap suc here.0, here.1)
      | inr there ↦ inr ((λ e. there.0 (omega (arith, e))), there.1)
    ]

pub set_none : {X : Type 0} (xs : List X) (i : ℕ) (x : X) (j : ℕ) → slice_get (slice_set xs i x) j ≡ None → slice_get xs j ≡ None
set_none [] i x j is = refl
set_none (first ∷ xs) zero x zero is = absurd (none-some x (sym is))
set_none (first ∷ xs) zero x (suc j) is = is
set_none (first ∷ xs) (suc i) x zero is = is
set_none (first ∷ xs) (suc i) x (suc j) is = set_none xs i x j is

-- ---- the rooms of what is held

have_with : (rooms : Rooms) (link : Link) (held : List Link) (done : Bool) → HaveRooms rooms held → done ≡ is_sound_take rooms held link → HaveRooms rooms (with_link done link held)
have_with rooms link held false have sound = have
have_with rooms link held true have sound = λ layout node none.
    let apart : has_node layout node link ≡ false = false_from_ne_true (has_node layout node link) (λ e.
    let parts = and_parts (link.layout == layout) (link.node == node) e in
    let here : rooms link.layout link.node ≡ None = ap (λ l. rooms l link.node) (eqb-true link.layout layout parts.0) ∙ ap (rooms layout) (eqb-true link.node node parts.1) ∙ none in
    both_ways true (sound ∙ ap (take_fits held link) here) refl) in
    links_other link held layout node apart ∙ have layout node none

-- where there were none, there are none without a number
empty_less : (layout node number : ℕ) (links : List Link) (l p : ℕ) → links_of links l p ≡ [] → links_of (but_number layout node number links) l p ≡ []
empty_less layout node number [] l p none = refl
empty_less layout node number (x ∷ xs) l p none = by_node (has_node l p x) refl none (empty_less layout node number xs l p) where
  by_keep : (k : Bool) → has_node l p x ≡ false → links_of (but_number layout node number xs) l p ≡ [] → links_of (cond k (x ∷ but_number layout node number xs) (but_number layout node number xs)) l p ≡ []
  by_keep true is rest = links_other x (but_number layout node number xs) l p is ∙ rest
  by_keep false is rest = rest

  by_node : (b : Bool) → has_node l p x ≡ b → links_of (x ∷ xs) l p ≡ [] → (links_of xs l p ≡ [] → links_of (but_number layout node number xs) l p ≡ []) → links_of (but_number layout node number (x ∷ xs)) l p ≡ []
  by_node true is none rest =
      let some : node_link x ∷ links_of xs l p ≡ [] = sym (ap (map node_link) (cond-true (has_node l p x) (x ∷ filter (has_node l p) xs) (filter (has_node l p) xs) is)) ∙ none in
      absurd (cc)
  by_node false is none rest = by_keep (not (has_number layout node number x)) is (rest (sym (links_other x xs l p is) ∙ none))

have_without : (rooms : Rooms) (layout node number : ℕ) (held : List Link) (done : Bool) → HaveRooms rooms held → HaveRooms rooms (without done layout node number held)
have_without rooms layout node number held false have = have
have_without rooms layout node number held true have = λ l p none. empty_less layout node number held l p (have l p none)

-- ---- tables of one layout where another changes

tables_again : (rooms : Rooms) (layout : ℕ) (held next : List Link) (tables : List NodeTable) → ((node : ℕ) → links_of next layout node ≡ links_of held layout node) → AreTables rooms layout held tables → AreTables rooms layout next tables
tables_again rooms layout held next tables same are = record {
  past = are.past;
  each = λ node table at. subst (λ (l : List NodeLink). IsTable (rooms layout node) (parents_of (rooms layout) (rooms layout node)) table l) (sym (same node)) (are.each node table at);
}

with_other : (link : Link) (held : List Link) (done : Bool) (layout : ℕ) → layout ≢ link.layout → (node : ℕ) → links_of (with_link done link held) layout node ≡ links_of held layout node
with_other link held false layout apart node = refl
with_other link held true layout apart node = links_other link held layout node (false_from_ne_true (has_node layout node link) (λ e. apart (sym (eqb-true link.layout layout (and_parts (link.layout == layout) (link.node == node) e).0))))

without_other : (layout node number : ℕ) (held : List Link) (done : Bool) (other : ℕ) → other ≢ layout → (p : ℕ) → links_of (without done layout node number held) other p ≡ links_of held other p
without_other layout node number held false other apart p = refl
without_other layout node number held true other apart p = links_apart held layout node number other p (λ same e. apart (sym same))

-- ---- a take

followed_take : (rooms : Rooms) (held : List Link) (now : List (List NodeTable)) (link : Link) (done : Bool) → done ≡ is_sound_take rooms held link → Stand rooms (with_link done link held) now
    → FollowedAs rooms now (follow rooms held (Take link)) done
followed_take rooms held now link true sound stand =
    subst (λ (o : Option (List Link)). FollowedAs rooms now o true) (sym (cond-true (is_sound_take rooms held link) (let out : Option (List Link) = Some (link ∷ held) in out) None (sym sound))) (refl, stand)
followed_take rooms held now link false sound stand =
    subst (λ (o : Option (List Link)). FollowedAs rooms now o false) (sym (cond-false (is_sound_take rooms held link) (let out : Option (List Link) = Some (link ∷ held) in out) None (sym sound))) refl

pub takes_nowhere : (layouts : List (List NodeTable)) (link : Link) → slice_get layouts link.layout ≡ None → Follows layouts layouts (Take link) false
takes_nowhere layouts link none rooms held stand =
    followed_take rooms held layouts link false (sym (ap (take_fits held link) (stand.past link.layout link.node none))) stand

pub takes_line : (layouts : List (List NodeTable)) (link : Link) (tables now : List NodeTable) (done : Bool) → slice_get layouts link.layout ≡ Some tables → TakesLink tables now link done
    → Follows layouts (slice_set layouts link.layout now) (Take link) done
takes_line layouts link tables now done at takes rooms held stand =
    let taken = takes rooms held stand.have (stand.each link.layout tables at) in
    followed_take rooms held (slice_set layouts link.layout now) link done taken.0 (record {
      have = have_with rooms link held done stand.have taken.0;
      past = λ layout node none. stand.past layout node (set_none layouts link.layout now layout none);
      each = λ layout kept is. elim (set_cases layouts link.layout now tables layout kept at is) [
        | inl here ↦ subst (λ (l : ℕ). AreTables rooms l (with_link done link held) kept) (sym here.0) (subst (λ (t : List NodeTable). AreTables rooms link.layout (with_link done link held) t) (sym here.1) taken.1)
        | inr other ↦ tables_again rooms layout held (with_link done link held) kept (with_other link held done layout other.0) (stand.each layout kept other.1)
      ];
    })

-- ---- a free

followed_free : (rooms : Rooms) (held : List Link) (now : List (List NodeTable)) (layout node number : ℕ) (done : Bool) → done ≡ is_sound_free rooms held layout node number → Stand rooms (without done layout node number held) now
    → FollowedAs rooms now (follow rooms held (Free layout node number)) done
followed_free rooms held now layout node number true sound stand =
    subst (λ (o : Option (List Link)). FollowedAs rooms now o true) (sym (cond-true (is_sound_free rooms held layout node number) (let out : Option (List Link) = Some (but_number layout node number held) in out) None (sym sound))) (refl, stand)
followed_free rooms held now layout node number false sound stand =
    subst (λ (o : Option (List Link)). FollowedAs rooms now o false) (sym (cond-false (is_sound_free rooms held layout node number) (let out : Option (List Link) = Some (but_number layout node number held) in out) None (sym sound))) refl

pub frees_nowhere : (layouts : List (List NodeTable)) (layout node number : ℕ) → slice_get layouts layout ≡ None → Follows layouts layouts (Free layout node number) false
frees_nowhere layouts layout node number none rooms held stand =
    let unheld : is_held held layout node number ≡ false = held_at held layout node number ∙ ap (list_any (has_this number)) (stand.have layout node (stand.past layout node none)) in
    followed_free rooms held layouts layout node number false (sym (no_held (is_held held layout node number) _ unheld)) stand
  where
    no_held : (a b : Bool) → a ≡ false → (a && b) ≡ false
    no_held true b e = absurd (both_ways true e refl)
    no_held false b e = refl

pub frees_line : (layouts : List (List NodeTable)) (layout node number : ℕ) (tables now : List NodeTable) (done : Bool) → slice_get layouts layout ≡ Some tables → FreesNumber tables now node number done
    → Follows layouts (slice_set layouts layout now) (Free layout node number) done
frees_line layouts layout node number tables now done at frees rooms held stand =
    let freed = frees rooms layout held stand.have (stand.each layout tables at) in
    followed_free rooms held (slice_set layouts layout now) layout node number done freed.0 (record {
      have = have_without rooms layout node number held done stand.have;
      past = λ other p none. stand.past other p (set_none layouts layout now other none);
      each = λ other kept is. elim (set_cases layouts layout now tables other kept at is) [
        | inl here ↦ subst (λ (l : ℕ). AreTables rooms l (without done layout node number held) kept) (sym here.0) (subst (λ (t : List NodeTable). AreTables rooms layout (without done layout node number held) t) (sym here.1) freed.1)
        | inr away ↦ tables_again rooms other held (without done layout node number held) kept (without_other layout node number held done other away.0) (stand.each other kept away.1)
      ];
    })

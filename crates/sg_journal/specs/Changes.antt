-- The lines of a journal between two states of stores.
use Rattle.std.specs.Prelude.{◌≡◌, ℕ, zero, suc, Bool, not, ◌&&◌, ◌==◌, List, [], ◌∷◌, ◌++◌, length, filter, map, refl}
use Rattle.std.specs.List.{list_any}
use Rattle.sg_store.specs.declared.links.LinkAt.{LinkAt}
use Rattle.sg_store.specs.StoreWords.{StoreWords}
use Rattle.sg_store.specs.LinkExamples.{link}
use Rattle.sg_journal.specs.declared.lines.Link.{Link}
use Rattle.sg_journal.specs.declared.lines.Line.{Line}
use Rattle.sg_journal.specs.declared.lines.Line.TheVariants.{Take, Free}
use Rattle.sg_journal.specs.Lines.{lines_text}
use Rattle.sg_journal.specs.Placing.{LayoutLinks, Placing, links_in, ArePlaced}

abbrev pub same_link : LinkAt → LinkAt → Bool
same_link one other = (one.number == other.number) && ((one.parent == other.parent) && (one.slot == other.slot))

-- the links that others lack, in their order
abbrev pub lacking : List LinkAt → List LinkAt → List LinkAt
lacking others links = filter (λ link. not (list_any (same_link link) others)) links

-- a link with its layout and node
abbrev pub link_of : (layout node : ℕ) → LinkAt → Link
link_of layout node link = record { layout = layout; node = node; number = link.number; parent = link.parent; slot = link.slot }

abbrev pub take_line : (layout node : ℕ) → LinkAt → Line
take_line layout node link = Take (link_of layout node link)

abbrev pub free_line : (layout node : ℕ) → LinkAt → Line
free_line layout node link = Free layout node link.number

-- what is freed at so many nodes of a layout, from the last of them to the first
abbrev pub frees_upto : ℕ → LayoutLinks → LayoutLinks → ℕ → List Line
frees_upto layout old new zero = []
frees_upto layout old new (suc index) =
    map (free_line layout (suc index)) (lacking (links_in new index) (links_in old index)) ++ frees_upto layout old new index

-- what is taken at so many nodes of a layout, from the first of them on
abbrev pub takes_upto : ℕ → LayoutLinks → LayoutLinks → ℕ → List Line
takes_upto layout old new zero = []
takes_upto layout old new (suc index) =
    takes_upto layout old new index ++ map (take_line layout (suc index)) (lacking (links_in old index) (links_in new index))

-- the changes of a layout
abbrev pub layout_changes : ℕ → LayoutLinks → LayoutLinks → List Line
layout_changes layout old new = frees_upto layout old new (length old) ++ takes_upto layout old new (length new)

-- the changes of layouts, the first of which has this number
abbrev pub changes_from : ℕ → Placing → Placing → List Line
changes_from layout [] news = []
changes_from layout (old ∷ olds) [] = []
changes_from layout (old ∷ olds) (new ∷ news) = layout_changes layout old new ++ changes_from (suc layout) olds news

-- the changes of all layouts
abbrev pub changes : Placing → Placing → List Line
changes olds news = changes_from 0 olds news

-- the lines of what has changed between stores stand after a text
pub record HasChanges (olds news : List StoreWords) (before after : List ℕ) : Type 0 where
  pub from : Placing
  pub to : Placing
  pub from_is : ArePlaced olds from
  pub to_is : ArePlaced news to
  pub text : after ≡ before ++ lines_text (changes from to)

-- ---- examples: block 2 has lost container 0, and block 1 has come to have it
moved_on : changes (((link 0 0 2 ∷ []) ∷ []) ∷ []) (((link 0 0 1 ∷ []) ∷ []) ∷ []) ≡ Free 0 1 0 ∷ (Take (link_of 0 1 (link 0 0 1)) ∷ [])
moved_on = refl

-- a number that stays is in no line
one_stays : changes (((link 0 0 2 ∷ (link 3 0 1 ∷ [])) ∷ []) ∷ []) (((link 0 0 2 ∷ []) ∷ []) ∷ []) ≡ Free 0 1 3 ∷ []
one_stays = refl

-- what stands in a container goes before it, and comes behind it
children_first : changes (((link 0 0 2 ∷ []) ∷ ((link 5 1 0 ∷ []) ∷ [])) ∷ []) (([] ∷ ([] ∷ [])) ∷ []) ≡ Free 0 2 5 ∷ (Free 0 1 0 ∷ [])
children_first = refl

parents_first : changes (([] ∷ ([] ∷ [])) ∷ []) (((link 0 0 2 ∷ []) ∷ ((link 5 1 0 ∷ []) ∷ [])) ∷ [])
    ≡ Take (link_of 0 1 (link 0 0 2)) ∷ (Take (link_of 0 2 (link 5 1 0)) ∷ [])
parents_first = refl

-- The laws of live slots: what makes more of them live, and what closing a list first changes, which is nothing.
use Rattle.std.specs.Prelude.{◌≡◌, ◌≢◌, ◌↔◌, ℕ, ◌≤◌, List, ◌++◌, length, Contains, IsTrue}
use Rattle.sg_coord.specs.declared.coord.Coord.{Coord}
use Rattle.sg_layout.specs.declared.shape.Kind.TheVariants.{Dense}
use Rattle.sg_layout.specs.declared.shape.Shape.{Shape}
use Rattle.sg_layout.specs.Path.{path}
use Rattle.sg_layout.specs.Live.{kind_at, is_live}
use Rattle.sg_layout.specs.Closure.{is_in_closure, closure}
use Rattle.sg_layout.specs.NeedLaws.{AllInside}

-- a node that isn't dense, by its number, counted from 1
pub record IsSparseNode (shape : Shape) (number : ℕ) : Type 0 where
  pub first : 1 ≤ number
  pub within : number ≤ length shape.nodes
  pub sparse : kind_at shape.nodes number ≢ Dense

-- if one list has all that another has, it makes live what the other does
abbrev pub LiveGrows : Shape → Type 0
LiveGrows shape =
    (few more : List Coord) → ((at : Coord) → Contains few at → Contains more at) → (number : ℕ) (slot : List ℕ) →
    IsTrue (is_live shape few number slot) → IsTrue (is_live shape more number slot)

-- lists with the same members make the same slots live
abbrev pub LiveIsOfMembers : Shape → Type 0
LiveIsOfMembers shape =
    (left right : List Coord) → ((at : Coord) → Contains left at ↔ Contains right at) → (number : ℕ) (slot : List ℕ) →
    is_live shape left number slot ≡ is_live shape right number slot

-- a coordinate in the closure of a list has its slot live for the list, at each node that isn't dense
abbrev pub ClosureIsLive : Shape → Type 0
ClosureIsLive shape =
    (written : List Coord) (at : Coord) → IsTrue (is_in_closure shape written at) → (number : ℕ) →
    IsSparseNode shape number → IsTrue (is_live shape written number (path shape at number))

-- closing a part of a list first makes no other slot live, of nodes that aren't dense; the part is inside, since a
-- closure has the coordinates inside alone
abbrev pub LiveAbsorbs : Shape → Type 0
LiveAbsorbs shape =
    (written more : List Coord) → AllInside shape written → (number : ℕ) → IsSparseNode shape number →
    (slot : List ℕ) →
    is_live shape (closure shape written ++ more) number slot ≡ is_live shape (written ++ more) number slot

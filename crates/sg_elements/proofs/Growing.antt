-- A level of the walk grows branch by branch.
use Rattle.std.proofs.Common.{◌≡◌, ◌⊎◌, inl, inr, ℕ, zero, suc, ◌+◌, ◌^◌, ◌<◌, ◌≤◌, Bool, true, cond, List, [], ◌∷◌, ◌++◌, length, map, filter, take, get_or, slice_index, Some, None, is_some, refl, sym, ap, ◌∙◌, subst, arith, append_assoc, append-nil}
use Rattle.std.specs.Prelude.{slice_get}
use Rattle.std.specs.List.{Contains, flat_map}
use Rattle.std.proofs.lemmas.List.{take_more, take_all, map-append, length-append, length-map}
use Rattle.std.proofs.lemmas.List.Concat.{flat_map-append}
use Rattle.std.proofs.lemmas.List.Elements.{All-contains_itself, filter-append}
use Rattle.std.proofs.lemmas.Option.{slice_get-get_or, get_or_from_slice_get}
use Rattle.sg_coord.specs.Bounds.{volume, IsBounds}
use Rattle.sg_coord.specs.Coord.{Inside, row_of}
use Rattle.sg_coord.specs.Laws.{RowBelow}
use Rattle.sg_layout.specs.Axes.{bounds_of_shape, sizes_of}
use Rattle.sg_layout.specs.PathLaws.{SlotIsReached, CoordinateOfPath}
use Rattle.sg_layout.specs.Accepted.{IsAccepted}
use Rattle.sg_layout.specs.Slots.{IsSlot, coordinate_of, share_at}
use Rattle.sg_store.specs.declared.spot.Spot.{Spot}
use Rattle.sg_store.specs.StoreWords.{StoreWords}
use Rattle.sg_store.specs.Walks.{cell_along}
use Rattle.sg_store.specs.Spots.{LeadsAlong}
use Rattle.sg_elements.specs.declared.branches.Branch.{Branch}
use Rattle.sg_elements.specs.declared.ways.Way.{Way}
use Rattle.sg_elements.specs.steps.Levels.{is_led, led_over, led_below, node_size, level_at, row_along, rows_upto, walk_rows, FewBelow, offsets_of, AreWays, IsBranch, AreBranches, AddsBranches, AddsRows}
use Rattle.sg_elements.proofs.Lists.{zip_append, zip_length, zip_at}
use Rattle.sg_elements.proofs.Paths.{slot_push, coordinate_inside, share_inside, row_push, row_none}

-- the branch at a place of a level
pub branch_there : (store : StoreWords) (node : ℕ) (level : List Branch) (index : ℕ) (path : List ℕ) (d : Branch) → index < length level
    → ((branch : Branch) → slice_get level index ≡ Some branch → IsBranch store node branch path) → IsBranch store node (get_or level index d) path
branch_there store node level index path d below is = is (get_or level index d) (slice_get-get_or level index d below)

-- one more offset is a slot
more_slot : (store : StoreWords) (node : ℕ) (branch : Branch) (path : List ℕ) (offset : ℕ) → node < length store.shape.nodes → IsBranch store node branch path → offset < node_size store node
    → IsSlot (take (suc node) store.shape.nodes) (path ++ offset ∷ [])
more_slot store node branch path offset there is below =
    let nodes = store.shape.nodes in
    let P : ℕ → Type 0 = λ n. IsSlot (take (suc n) nodes) (path ++ offset ∷ []) in
    let Q : ℕ → Type 0 = λ n. IsSlot (take n nodes) path in
    let R : ℕ → Type 0 = λ n. offset < slice_index (sizes_of nodes) n in
    subst P is.many (slot_push nodes path offset (omega (arith, is.many)) (subst Q (sym is.many) is.is_slot) (subst R (sym is.many) below))

-- what is known of the offset after a path: what it adds is inside, and the row number with it is no less than the sum and below the volume
pub record IsMore (store : StoreWords) (node start : ℕ) (path : List ℕ) (offset : ℕ) : Type 0 where
  pub is_slot : IsSlot (take (suc node) store.shape.nodes) (path ++ offset ∷ [])
  pub inside : Inside (bounds_of_shape store.shape) (share_at store.shape.axes store.shape.nodes node offset)
  pub row : start + row_of (bounds_of_shape store.shape) (share_at store.shape.axes store.shape.nodes node offset) ≡ row_along store.shape (path ++ offset ∷ [])
  pub below : row_along store.shape (path ++ offset ∷ []) < volume (bounds_of_shape store.shape)

pub more_there : (store : StoreWords) (node : ℕ) (branch : Branch) (path : List ℕ) (offset : ℕ) → SlotIsReached store.shape → CoordinateOfPath store.shape → RowBelow → IsAccepted store.shape
    → node < length store.shape.nodes → IsBranch store node branch path → offset < node_size store node → IsMore store node branch.row path offset
more_there store node branch path offset reached whole rows accepted there is below =
    let shape = store.shape in
    let e = bounds_of_shape shape in
    let slot = more_slot store node branch path offset there is below in
    let inside : Inside (bounds_of_shape store.shape) (coordinate_of store.shape (path ++ offset ∷ [])) = coordinate_inside shape reached whole accepted (suc node) (path ++ offset ∷ []) slot in
    let P : ℕ → Type 0 = λ n. Inside e (share_at shape.axes shape.nodes n offset) in
    record {
      is_slot = slot;
      inside = subst P is.many (share_inside shape path offset inside);
      row = ap (λ (k : ℕ). k + row_of e (share_at shape.axes shape.nodes node offset)) is.row
          ∙ ap (λ (n : ℕ). row_along shape path + row_of e (share_at shape.axes shape.nodes n offset)) (sym is.many)
          ∙ sym (row_push shape path offset);
      below = rows e (coordinate_of shape (path ++ offset ∷ [])) inside;
    }

pub more_branch : (store : StoreWords) (node row : ℕ) (path : List ℕ) (offset : ℕ) (spot : Spot) (sum : ℕ) → length path ≡ node → IsMore store node row path offset → LeadsAlong store spot (path ++ offset ∷ [])
    → sum ≡ row_along store.shape (path ++ offset ∷ []) → IsBranch store (suc node) (record { spot = spot; row = sum }) (path ++ offset ∷ [])
more_branch store node row path offset spot sum many more leads is = record {
  many = omega (arith, many, pushed path);
  leads = leads;
  is_slot = more.is_slot;
  row = is;
}
  where
    pushed : (path : List ℕ) → length (path ++ offset ∷ []) ≡ length path + 1
    pushed [] = refl
    pushed (x ∷ path) = omega (arith, pushed path)

-- the same of the offset of the way at a place of a list
pub way_there : (store : StoreWords) (node : ℕ) (branch : Branch) (path : List ℕ) (ways : List Way) (i : ℕ) (d : Way) → SlotIsReached store.shape → CoordinateOfPath store.shape → RowBelow → IsAccepted store.shape
    → node < length store.shape.nodes → IsBranch store node branch path → AreWays store node ways → i < length ways → IsMore store node branch.row path (get_or ways i d).offset
way_there store node branch path ways i d reached whole rows accepted there is are below =
    more_there store node branch path (get_or ways i d).offset reached whole rows accepted there is (are.below i d below)

-- the sum of the row number and what the way adds
pub way_row : (store : StoreWords) (node start : ℕ) (path : List ℕ) (ways : List Way) (i : ℕ) (d : Way) → AreWays store node ways → i < length ways → IsMore store node start path (get_or ways i d).offset
    → start + (get_or ways i d).share ≡ row_along store.shape (path ++ (get_or ways i d).offset ∷ [])
way_row store node start path ways i d are below more = ap (λ (k : ℕ). start + k) (are.shares i d below) ∙ more.row

pub way_small : (store : StoreWords) (node start : ℕ) (path : List ℕ) (ways : List Way) (i : ℕ) (d : Way) → AreWays store node ways → i < length ways → IsMore store node start path (get_or ways i d).offset
    → IsBounds (bounds_of_shape store.shape) → start + (get_or ways i d).share < 2 ^ 32
way_small store node start path ways i d are below more good = omega (arith, way_row store node start path ways i d are below more, more.below, good.volume_most)

-- ---- ways, one by one

-- one way more
pub led_more : (store : StoreWords) (path : List ℕ) (ways : List Way) (i : ℕ) (d : Way) → i < length ways
    → led_over store path (offsets_of (take (i + 1) ways)) ≡ led_over store path (offsets_of (take i ways)) ++ cond (is_led store (path ++ (get_or ways i d).offset ∷ [])) ((path ++ (get_or ways i d).offset ∷ []) ∷ []) []
led_more store path ways i d below =
    let behind : List ℕ → List (List ℕ) = λ offsets. map (λ (offset : ℕ). path ++ offset ∷ []) offsets in
    let offset : ℕ = (get_or ways i d).offset in
    let more : offsets_of (take (i + 1) ways) ≡ offsets_of (take i ways) ++ offset ∷ [] =
    ap offsets_of (take_more ways i d below) ∙ map-append (λ (way : Way). way.offset) (take i ways) (get_or ways i d ∷ []) in
    ap (led_over store path) more
    ∙ ap (filter (is_led store)) (map-append (λ (offset : ℕ). path ++ offset ∷ []) (offsets_of (take i ways)) (offset ∷ []))
    ∙ filter-append (is_led store) (behind (offsets_of (take i ways))) ((path ++ offset ∷ []) ∷ [])

led_one : (store : StoreWords) (path : List ℕ) (ways : List Way) (i : ℕ) (d : Way) → i < length ways → is_led store (path ++ (get_or ways i d).offset ∷ []) ≡ true
    → led_over store path (offsets_of (take (i + 1) ways)) ≡ led_over store path (offsets_of (take i ways)) ++ (path ++ (get_or ways i d).offset ∷ []) ∷ []
led_one store path ways i d below led =
    led_more store path ways i d below ∙ ap (λ (b : Bool). led_over store path (offsets_of (take i ways)) ++ cond b ((path ++ (get_or ways i d).offset ∷ []) ∷ []) []) led

pub led_none : (store : StoreWords) (path : List ℕ) (ways : List Way) (i : ℕ) (d : Way) → i < length ways → cell_along store (path ++ (get_or ways i d).offset ∷ []) ≡ None
    → led_over store path (offsets_of (take (i + 1) ways)) ≡ led_over store path (offsets_of (take i ways))
led_none store path ways i d below none =
    led_more store path ways i d below ∙ ap (λ (b : Bool). led_over store path (offsets_of (take i ways)) ++ cond b ((path ++ (get_or ways i d).offset ∷ []) ∷ []) []) (ap is_some none)
    ∙ append-nil (led_over store path (offsets_of (take i ways)))

pub adds_branch : (store : StoreWords) (node : ℕ) (path : List ℕ) (ways : List Way) (i : ℕ) (d : Way) (old next : List Branch) (branch : Branch) → i < length ways → AddsBranches store node (offsets_of (take i ways)) path old next
    → IsBranch store (suc node) branch (path ++ (get_or ways i d).offset ∷ []) → AddsBranches store node (offsets_of (take (i + 1) ways)) path old (next ++ branch ∷ [])
adds_branch store node path ways i d old next branch below so is =
    let long = path ++ (get_or ways i d).offset ∷ [] in
    let front = led_over store path (offsets_of (take i ways)) in
    record {
      more = so.more ++ branch ∷ [];
      added = ap (λ (list : List Branch). list ++ branch ∷ []) so.added ∙ append_assoc old so.more (branch ∷ []);
      are = subst (AreBranches store (suc node) (so.more ++ branch ∷ [])) (sym (led_one store path ways i d below (ap is_some is.leads.leads)))
          (zip_append (IsBranch store (suc node)) so.more (branch ∷ []) front (long ∷ []) so.are (is, tt));
    }

pub adds_none : (store : StoreWords) (node : ℕ) (path : List ℕ) (ways : List Way) (i : ℕ) (d : Way) (old next : List Branch) → i < length ways → AddsBranches store node (offsets_of (take i ways)) path old next
    → cell_along store (path ++ (get_or ways i d).offset ∷ []) ≡ None → AddsBranches store node (offsets_of (take (i + 1) ways)) path old next
adds_none store node path ways i d old next below so none = record {
  more = so.more;
  added = so.added;
  are = subst (AreBranches store (suc node) so.more) (sym (led_none store path ways i d below none)) so.are;
}

pub adds_nothing : (store : StoreWords) (node : ℕ) (path : List ℕ) (old : List Branch) → AddsBranches store node [] path old old
adds_nothing store node path old = record { more = []; added = sym (append-nil old); are = tt }

pub adds_row : (store : StoreWords) (path : List ℕ) (ways : List Way) (i : ℕ) (d : Way) (old rows : List ℕ) (row : ℕ) → i < length ways → AddsRows store (offsets_of (take i ways)) path old rows
    → is_led store (path ++ (get_or ways i d).offset ∷ []) ≡ true → row ≡ row_along store.shape (path ++ (get_or ways i d).offset ∷ []) → AddsRows store (offsets_of (take (i + 1) ways)) path old (rows ++ row ∷ [])
adds_row store path ways i d old rows row below so led is =
    let long = path ++ (get_or ways i d).offset ∷ [] in
    let front = led_over store path (offsets_of (take i ways)) in
    ap (λ (list : List ℕ). list ++ row ∷ []) so
    ∙ append_assoc old (map (row_along store.shape) front) (row ∷ [])
    ∙ ap (λ (k : ℕ). old ++ (map (row_along store.shape) front ++ k ∷ [])) is
    ∙ ap (λ (list : List ℕ). old ++ list) (sym (map-append (row_along store.shape) front (long ∷ [])))
    ∙ ap (λ (list : List (List ℕ)). old ++ map (row_along store.shape) list) (sym (led_one store path ways i d below led))

pub adds_no_row : (store : StoreWords) (path : List ℕ) (ways : List Way) (i : ℕ) (d : Way) (old rows : List ℕ) → i < length ways → AddsRows store (offsets_of (take i ways)) path old rows
    → cell_along store (path ++ (get_or ways i d).offset ∷ []) ≡ None → AddsRows store (offsets_of (take (i + 1) ways)) path old rows
adds_no_row store path ways i d old rows below so none =
    so ∙ ap (λ (list : List (List ℕ)). old ++ map (row_along store.shape) list) (sym (led_none store path ways i d below none))

-- an offset below the node's size that isn't followed leads nowhere
pub not_led : (store : StoreWords) (node spot offset : ℕ) (path : List ℕ) → spot ≡ node → offset < slice_index (sizes_of store.shape.nodes) node
    → (slice_index (sizes_of store.shape.nodes) spot ≤ offset) ⊎ (cell_along store (path ++ offset ∷ []) ≡ None) → cell_along store (path ++ offset ∷ []) ≡ None
not_led store node spot offset path same below (inl past) = absurd (omega (arith, ap (λ (n : ℕ). slice_index (sizes_of store.shape.nodes) n) same))
not_led store node spot offset path same below (inr none) = none

-- ---- a whole level

-- one branch more
below_more : (store : StoreWords) (node index : ℕ) (level : List Branch) → AreBranches store node level (level_at store node) → index < length level
    → flat_map (led_below store (node_size store node)) (take (index + 1) (level_at store node)) ≡ flat_map (led_below store (node_size store node)) (take index (level_at store node)) ++ led_below store (node_size store node) (get_or (level_at store node) index [])
below_more store node index level are below =
    let paths = level_at store node in
    let f = led_below store (node_size store node) in
    let there : index < length (level_at store node) = omega (arith, zip_length (IsBranch store node) level paths are) in
    let path = get_or paths index [] in
    ap (flat_map f) (take_more paths index [] there) ∙ flat_map-append f (take index paths) (path ∷ []) ∙ ap (λ (list : List (List ℕ)). flat_map f (take index paths) ++ list) (append-nil (f path))

path_there : (store : StoreWords) (node index : ℕ) (level : List Branch) → AreBranches store node level (level_at store node) → index < length level → Contains (level_at store node) (get_or (level_at store node) index [])
path_there store node index level are below =
    let there : index < length (level_at store node) = omega (arith, zip_length (IsBranch store node) level (level_at store node) are) in
    All-contains_itself (level_at store node) index [] there

pub level_more : (store : StoreWords) (node index : ℕ) (level old new : List Branch) (ways : List Way) → AreBranches store node level (level_at store node) → index < length level → AreWays store node ways
    → AreBranches store (suc node) old (flat_map (led_below store (node_size store node)) (take index (level_at store node)))
    → AddsBranches store node (offsets_of ways) (get_or (level_at store node) index []) old new
    → AreBranches store (suc node) new (flat_map (led_below store (node_size store node)) (take (index + 1) (level_at store node)))
level_more store node index level old new ways are below of so adds =
    let paths = level_at store node in
    let f = led_below store (node_size store node) in
    let path = get_or paths index [] in
    let more : AreBranches store (suc node) adds.more (f path) = subst (AreBranches store (suc node) adds.more) (of.all path (path_there store node index level are below)) adds.are in
    subst (λ (bs : List Branch). AreBranches store (suc node) bs (flat_map (led_below store (node_size store node)) (take (index + 1) (level_at store node)))) (sym adds.added)
    (subst (AreBranches store (suc node) (old ++ adds.more)) (sym (below_more store node index level are below))
    (zip_append (IsBranch store (suc node)) old adds.more (flat_map f (take index paths)) (f path) so more))

pub rows_more : (store : StoreWords) (node index : ℕ) (level : List Branch) (front old new : List ℕ) (ways : List Way) → AreBranches store node level (level_at store node) → index < length level → AreWays store node ways
    → rows_upto store node index ≡ front ++ old → AddsRows store (offsets_of ways) (get_or (level_at store node) index []) old new → rows_upto store node (index + 1) ≡ front ++ new
rows_more store node index level front old new ways are below of so adds =
    let paths = level_at store node in
    let f = led_below store (node_size store node) in
    let path = get_or paths index [] in
    ap (map (row_along store.shape)) (below_more store node index level are below)
    ∙ map-append (row_along store.shape) (flat_map f (take index paths)) (f path)
    ∙ ap (λ (list : List ℕ). list ++ map (row_along store.shape) (f path)) so
    ∙ append_assoc front old (map (row_along store.shape) (f path))
    ∙ ap (λ (list : List (List ℕ)). front ++ (old ++ map (row_along store.shape) list)) (sym (of.all path (path_there store node index level are below)))
    ∙ ap (λ (list : List ℕ). front ++ list) (sym adds)

-- all of them
pub taken_all : (store : StoreWords) (node index : ℕ) (level : List Branch) → AreBranches store node level (level_at store node) → length level ≤ index
    → flat_map (led_below store (node_size store node)) (take index (level_at store node)) ≡ level_at store (suc node)
taken_all store node index level are past =
    let paths = level_at store node in
    let there : length (level_at store node) ≤ index = omega (arith, zip_length (IsBranch store node) level paths are) in
    ap (flat_map (led_below store (node_size store node))) (take_all index paths there)

pub branch_at : (store : StoreWords) (node index : ℕ) (level : List Branch) (branch : Branch) → AreBranches store node level (level_at store node) → index < length level
    → slice_get level index ≡ Some branch → IsBranch store node branch (get_or (level_at store node) index [])
branch_at store node index level branch are below there =
    let here = zip_at (IsBranch store node) level (level_at store node) index branch [] are below in
    subst (λ (b : Branch). IsBranch store node b (get_or (level_at store node) index [])) (get_or_from_slice_get level index branch branch there) here

-- ---- all levels

pub root_level : (store : StoreWords) (spot : Spot) → LeadsAlong store spot [] → AreBranches store 0 (record { spot = spot; row = 0 } ∷ []) (level_at store 0)
root_level store spot leads = (record { many = refl; leads = leads; is_slot = tt; row = sym (row_none store.shape) }, tt)

-- ---- how many branches there are

-- one way more, over which the store leads, or doesn't
pub count_one : (store : StoreWords) (path : List ℕ) (ways : List Way) (i : ℕ) (d : Way) → i < length ways → is_led store (path ++ (get_or ways i d).offset ∷ []) ≡ true
    → length (led_over store path (offsets_of (take (i + 1) ways))) ≡ length (led_over store path (offsets_of (take i ways))) + 1
count_one store path ways i d below led = ap length (led_one store path ways i d below led) ∙ length-append (led_over store path (offsets_of (take i ways))) ((path ++ (get_or ways i d).offset ∷ []) ∷ [])

pub count_none : (store : StoreWords) (path : List ℕ) (ways : List Way) (i : ℕ) (d : Way) → i < length ways → cell_along store (path ++ (get_or ways i d).offset ∷ []) ≡ None
    → length (led_over store path (offsets_of (take (i + 1) ways))) ≡ length (led_over store path (offsets_of (take i ways)))
count_none store path ways i d below none = ap length (led_none store path ways i d below none)

-- one branch more
pub count_more : (store : StoreWords) (node index : ℕ) (level : List Branch) (ways : List Way) → AreBranches store node level (level_at store node) → index < length level → AreWays store node ways
    → length (rows_upto store node (index + 1)) ≡ length (rows_upto store node index) + length (led_over store (get_or (level_at store node) index []) (offsets_of ways))
count_more store node index level ways are below of =
    let path = get_or (level_at store node) index [] in
    let more = map (row_along store.shape) (led_over store path (offsets_of ways)) in
    ap length (rows_more store node index level [] (rows_upto store node index) (rows_upto store node index ++ more) ways are below of refl refl)
    ∙ length-append (rows_upto store node index) more
    ∙ ap (λ (n : ℕ). length (rows_upto store node index) + n) (length-map (led_over store path (offsets_of ways)) (row_along store.shape))

-- those of some branches are no more than those of all
front_short : {X Y : Type 0} (f : X → List Y) (i : ℕ) (xs : List X) → length (flat_map f (take i xs)) ≤ length (flat_map f xs)
front_short f zero xs = omega arith
front_short f (suc i) [] = omega arith
front_short f (suc i) (x ∷ xs) =
    let later = front_short f i xs in
    omega (arith, later, length-append (f x) (flat_map f (take i xs)), length-append (f x) (flat_map f xs))

pub few_below : (store : StoreWords) (node : ℕ) → suc node ≡ length store.shape.nodes → length (walk_rows store) < 2 ^ 32 → FewBelow store node
few_below store node last few = λ count.
    let f = led_below store (node_size store node) in
    let short = front_short f count (level_at store node) in
    let all : length (level_at store (suc node)) ≡ length (walk_rows store) = ap (λ (n : ℕ). length (level_at store n)) last ∙ sym (length-map (level_at store (length store.shape.nodes)) (row_along store.shape)) in
    omega (arith, short, all, few, length-map (flat_map f (take count (level_at store node))) (row_along store.shape))

-- A hash node whose keys were raced for: they can be settled, they open the node, or more are there than its cap.
use Rattle.std.proofs.Common.{◌≡◌, ℕ, suc, ◌+◌, ◌-◌, ◌^◌, ◌<◌, ◌≤◌, ◌≢◌, ◌⊎◌, inl, inr, Bool, true, false, ◌||◌, cond, not, ◌&&◌, ◌==◌, List, [], ◌∷◌, ◌++◌, length, refl, sym, ap, ◌∙◌, subst, arith}
use Rattle.std.specs.Prelude.{Err, slice_index}
use Rattle.std.specs.List.{Contains}
use Rattle.std.proofs.lemmas.Bool.{cases_eq, false≢true}
use Rattle.std.proofs.lemmas.List.Elements.{Contains-get_or}
use Rattle.sg_words.specs.declared.race.Worker.{Worker}
use Rattle.sg_words.specs.Counts.{pairs, firsts}
use Rattle.sg_words.proofs.Uses.{firsts-pair, neither_holds}
use Rattle.sg_coord.specs.declared.coord.Coord.{Coord}
use Rattle.sg_layout.specs.declared.shape.Kind.TheVariants.{Hash}
use Rattle.sg_layout.specs.declared.shape.NodeShape.{NodeShape}
use Rattle.sg_layout.specs.Axes.{count_of}
use Rattle.sg_layout.specs.Need.{first_full}
use Rattle.sg_layout.specs.NeedLaws.{IsNumberedNode}
use Rattle.sg_pool.specs.Numbers.{PoolNumbers, live_count, IsFree, IsStock}
use Rattle.sg_words.specs.Stocks.{taken_of as pointer_taken_of, IsFreshStock, is_dry, full_words, taken_of}
use Rattle.sg_hash.specs.Finishing.{Settled, KeysSettled}
use Rattle.sg_hash.specs.Tables.{AreBeside}
use Rattle.sg_hash.proofs.Uses.{stands_once}
use Rattle.sg_store.specs.StoreWords.{StoreWords}
use Rattle.sg_store.specs.WellFormed.{IsWellFormed}
use Rattle.sg_store.specs.Reaching.{IsOpenThrough}
use Rattle.sg_store.specs.Opening.{keys_of, link_words_of, pool_of, filled_count, CanSettleHash, WantedHaveKeys, NewKeysAreWanted}
use Rattle.sg_store.specs.OpeningLaws.{KeysFillFirst}
use Rattle.sg_activate.specs.declared.fault.ActFault.TheVariants.{PoolFull}
use Rattle.sg_activate.specs.Activating.{unless_full}
use Rattle.sg_activate.specs.steps.Keys.{IsLinkedKey, IsKnown, HasFound, HasPutFor, AreKeyed}
use Rattle.sg_activate.proofs.TakenNumbers.{index_within, contains_word, taken_has, taken_from, taken_once, taken_count, taken_all}
use Rattle.sg_activate.proofs.LinkLevel.{fresh_stock}

-- the numbers of new links are those of the pass over a pointer node's
taken_same : (old new : List ℕ) → taken_of old new ≡ pointer_taken_of old new
taken_same [] new = refl
taken_same (o ∷ os) [] = refl
taken_same (o ∷ os) (w ∷ ws) = ap (λ l. cond ((o == 0) && not (w == 0)) ((w - 1) ∷ l) l) (taken_same os ws)

pub fresh_for_keys : (pool : PoolNumbers) (links stock : List ℕ) → IsStock pool stock
    → ((number : ℕ) → Contains stock number → Contains links (suc number) → ⊥) → IsFreshStock links stock
fresh_for_keys pool links stock is unlinked = let f = fresh_stock pool links stock is unlinked in record { distinct = f.distinct; unlinked = f.unlinked }

-- what the race for the keys has left
pub record KeyOutcome (store : StoreWords) (stock : List ℕ) (v : Worker) (keys links taken : List ℕ) (full dry : Bool) : Type 0 where
  pub is_stock : IsStock (pool_of store 1) stock
  pub numbers : (t : ℕ) → slice_index stock t < 2 ^ 32
  pub settled : Settled (link_words_of store 1) stock v links
  pub key_words : KeysSettled (keys_of store 1) v keys full
  pub ran_dry : dry ≡ (is_dry v || full)
  pub taken_are : taken ≡ pointer_taken_of (link_words_of store 1) links
  pub keyed : AreKeyed store v full
  pub links_beside : AreBeside (keys_of store 1) (link_words_of store 1)
  pub filled : filled_count (link_words_of store 1) ≡ live_count (pool_of store 1)

pub key_outcome : (store : StoreWords) (read_keys read_links stock given_keys given_links given_stock : List ℕ) (v : Worker) (keys links taken : List ℕ) (full dry : Bool)
    → read_keys ≡ keys_of store 1 → read_links ≡ link_words_of store 1 → IsStock (pool_of store 1) stock → ((t : ℕ) → slice_index stock t < 2 ^ 32)
    → (given_keys ≡ read_keys) × (given_links ≡ read_links) × (given_stock ≡ stock) → Settled given_links given_stock v links → KeysSettled given_keys v keys full
    → dry ≡ (is_dry v || full) → taken ≡ taken_of given_links links → AreKeyed store v full → AreBeside read_keys (link_words_of store 1) → filled_count read_links ≡ live_count (pool_of store 1)
    → KeyOutcome store stock v keys links taken full dry
key_outcome store read_keys read_links stock given_keys given_links given_stock v keys links taken full dry is_keys is_links is_stock numbers given settled key_words ran_dry taken_are keyed beside filled =
    let same : given_links ≡ link_words_of store 1 = given.1 ∙ is_links in
    let same' : given_keys ≡ keys_of store 1 = given.0 ∙ is_keys in
    record {
      is_stock = is_stock;
      numbers = numbers;
      settled = subst (λ s. Settled (link_words_of store 1) s v links) given.2 (subst (λ l. Settled l given_stock v links) same settled);
      key_words = subst (λ l. KeysSettled l v keys full) same' key_words;
      ran_dry = ran_dry;
      taken_are = taken_are ∙ ap (λ l. taken_of l links) same ∙ taken_same (link_words_of store 1) links;
      keyed = keyed;
      links_beside = subst (λ l. AreBeside l (link_words_of store 1)) is_keys beside;
      filled = ap filled_count (sym is_links) ∙ filled;
    }

module _ (store : StoreWords) (stock : List ℕ) (v : Worker) (keys links taken : List ℕ) (full dry : Bool) (o : KeyOutcome store stock v keys links taken full dry) where
  new_is_made : (place : ℕ) → slice_index (link_words_of store 1) place ≡ 0 → slice_index links place ≢ 0 → (ticket : ℕ) × (0 < pairs place ticket v.made)
  new_is_made place empty some = elim (cases_eq (firsts place v.made) 0) [
    | inl none ↦ absurd (some (o.settled.bare place empty none))
    | inr made ↦ firsts-pair place v.made (omega arith)
  ]

  new_is_of_stock : (place n : ℕ) → slice_index (link_words_of store 1) place ≡ 0 → slice_index links place ≡ suc n → IsFree (pool_of store 1) n
  new_is_of_stock place n empty is =
      let found = o.settled.of_stock place empty (omega arith) in
      let same : slice_index stock found.0 ≡ n = let e : slice_index links place ≡ slice_index stock found.0 + 1 = found.2 in omega arith in
      (o.is_stock.members n).0 (subst (λ x. Contains stock x) same (Contains-get_or stock found.0 0 found.1))

  -- an old link stands beside an old key
  old_beside : (place : ℕ) → slice_index (link_words_of store 1) place ≢ 0 → slice_index (keys_of store 1) place ≢ 0
  old_beside place some none =
      let within : place < length (link_words_of store 1) = index_within (link_words_of store 1) place (omega arith) in
      let many = o.links_beside.many in
      some (o.links_beside.empty place (omega arith) none)

  keys_stay : (place : ℕ) → slice_index (keys_of store 1) place ≢ 0 → slice_index keys place ≡ slice_index (keys_of store 1) place
  keys_stay place some = o.key_words.stay place (omega arith)

  -- a link stands beside a key
  pub beside_keys : (place : ℕ) → slice_index links place ≢ 0 → slice_index keys place ≢ 0
  beside_keys place some none = elim (cases_eq (slice_index (link_words_of store 1) place) 0) [
    | inl empty ↦
        let made = new_is_made place empty some in
        let key = o.keyed.beside place made.0 made.1 in
        let found : slice_index keys place ≡ key.0 + 1 = o.key_words.found place key.0 key.1 in
        omega arith
    | inr old ↦ let before = old_beside place old in let e = keys_stay place before in before (sym e ∙ none)
  ]

  not_dry : dry ≡ false → (is_dry v ≡ false) × (full ≡ false)
  not_dry is = neither_holds (is_dry v) full (sym o.ran_dry ∙ is)

  -- if it isn't dry, each known key has its link
  known_linked : dry ≡ false → (key : ℕ) → IsKnown v full key → IsLinkedKey v key
  known_linked is key (inl linked) = linked
  known_linked is key (inr (inl dries)) = absurd (false≢true (sym (not_dry is).0 ∙ dries))
  known_linked is key (inr (inr fills)) = absurd (false≢true (sym (not_dry is).1 ∙ fills))

  links_are_beside : dry ≡ false → AreBeside keys links
  links_are_beside is = record {
    many = let a = o.key_words.long in let b = o.settled.long in let c = o.links_beside.many in omega arith;
    linked = λ place below some. elim (cases_eq (slice_index (keys_of store 1) place) 0) [
      | inr old ↦
          let within : place < length (keys_of store 1) = let a = o.key_words.long in omega arith in
          let before = o.links_beside.linked place within old in
          let low : 0 < slice_index (link_words_of store 1) place = before.0 in
          let stays : slice_index links place ≡ slice_index (link_words_of store 1) place = o.settled.stay place low in
          (let h : 0 < slice_index links place = omega arith in h, let k : slice_index (link_words_of store 1) place ≤ 2 ^ 32 = before.1 in let h : slice_index links place ≤ 2 ^ 32 = omega arith in h)
      | inl empty ↦
          let key : ℕ = slice_index keys place - 1 in
          let is_key : slice_index keys place ≡ key + 1 = omega arith in
          let linked = known_linked is key (o.keyed.known key (o.key_words.put place key empty is_key)) in
          let there : slice_index keys linked.place ≡ key + 1 = o.key_words.found linked.place key linked.found in
          let within : linked.place < length keys = index_within keys linked.place (omega arith) in
          let same : place ≡ linked.place = stands_once keys o.key_words.table key place linked.place below within is_key there in
          let link : slice_index links linked.place ≡ linked.number + 1 = o.settled.seen linked.place linked.number linked.seen in
          let here : slice_index links place ≡ linked.number + 1 = ap (slice_index links) same ∙ link in
          let none : slice_index (link_words_of store 1) place ≡ 0 = old_none place empty in
          let found = o.settled.of_stock place none (let h : 0 < slice_index links place = omega arith in h) in
          let number : slice_index links place ≡ slice_index stock found.0 + 1 = found.2 in
          let small = o.numbers found.0 in
          (let h : 0 < slice_index links place = omega arith in h, let h : slice_index links place ≤ 2 ^ 32 = omega arith in h)
    ];
    empty = λ place below none. elim (cases_eq (slice_index links place) 0) [
      | inl is_none ↦ is_none
      | inr some ↦ absurd (beside_keys place some none)
    ];
  }
    where
      old_none : (place : ℕ) → slice_index (keys_of store 1) place ≡ 0 → slice_index (link_words_of store 1) place ≡ 0
      old_none place empty = elim (cases_eq (slice_index (link_words_of store 1) place) 0) [
        | inl none ↦ none
        | inr some ↦ absurd (old_beside place some empty)
      ]

  pub can_settle_hash : dry ≡ false → CanSettleHash store keys links taken
  can_settle_hash is = subst (λ t. CanSettleHash store keys links t) (sym o.taken_are) (record {
    key_count = o.key_words.long;
    table = o.key_words.table;
    links_beside = links_are_beside is;
    keys_stay = keys_stay;
    links_stay = λ place some. o.settled.stay place (omega arith);
    in_live = λ place key empty at. o.keyed.in_live key (o.key_words.put place key empty (let e : slice_index keys place ≡ key + 1 = omega arith in e));
    of_taken = λ place taking empty at. taken_has (link_words_of store 1) links place taking o.settled.long empty at;
    all_taken = λ taking at. let r = taken_from (link_words_of store 1) links taking at in contains_word links r.0 taking r.2;
    once = λ x y taking at first second.
        let r = taken_from (link_words_of store 1) links taking at in
        let e : r.0 ≡ x = o.settled.once r.0 x r.1 (let h : slice_index links r.0 ≡ suc taking = r.2 in omega arith) (r.2 ∙ sym first) in
        let e' : r.0 ≡ y = o.settled.once r.0 y r.1 (let h : slice_index links r.0 ≡ suc taking = r.2 in omega arith) (r.2 ∙ sym second) in
        sym e ∙ e';
    free = record {
      free = taken_all (IsFree (pool_of store 1)) (link_words_of store 1) links new_is_of_stock;
      once = taken_once (link_words_of store 1) links o.settled.long o.settled.once;
    };
  })

  pub new_keys_are_wanted : (wanted : List Coord) → HasPutFor store wanted v → NewKeysAreWanted store keys wanted
  new_keys_are_wanted wanted made place key empty at = made key (o.key_words.put place key empty (let e : slice_index keys place ≡ key + 1 = omega arith in e))

  pub wanted_have_keys : (wanted : List Coord) → dry ≡ false → ((at : Coord) → Contains wanted at → HasFound store at v full) → WantedHaveKeys store keys wanted
  wanted_have_keys wanted is met at is_wanted key place =
      let linked = known_linked is key (met at is_wanted key place) in
      let there : slice_index keys linked.place ≡ key + 1 = o.key_words.found linked.place key linked.found in
      contains_word keys linked.place key (let e : slice_index keys linked.place ≡ suc key = omega arith in e)

  pub words_past : (cap : ℕ) (words : List ℕ) → KeysFillFirst store → IsWellFormed store → (node : NodeShape) → IsNumberedNode store.shape 1 node → node.kind ≡ Hash → cap ≡ count_of node.cap
      → ((place : ℕ) → slice_index words place ≢ 0 → slice_index keys place ≢ 0) → count_of node.cap < filled_count words → (wanted : List Coord) → HasPutFor store wanted v
      → (old : List Coord) → IsOpenThrough store old (old ++ wanted) 0 → unless_full (first_full store.shape (old ++ wanted)) ≡ Err (PoolFull 1 cap)
  words_past cap words law well node there kind is beside past wanted made old open_before =
      ap unless_full (law well old wanted node there kind open_before keys words o.key_words.table keys_stay (new_keys_are_wanted wanted made) beside past)
      ∙ ap (λ c. Err (PoolFull 1 c)) (sym is)

  -- more keys or links than the cap are there where it ran dry, or more were taken than the cap leaves
  pub keys_are_full : (cap : ℕ) → KeysFillFirst store → IsWellFormed store → (node : NodeShape) → IsNumberedNode store.shape 1 node → node.kind ≡ Hash → cap ≡ count_of node.cap
      → length stock + live_count (pool_of store 1) ≡ count_of node.cap + 17 → count_of node.cap < length (keys_of store 1) → (dry ≡ true) ⊎ (length stock < length taken + 17)
      → (wanted : List Coord) → HasPutFor store wanted v
      → (old : List Coord) → IsOpenThrough store old (old ++ wanted) 0 → unless_full (first_full store.shape (old ++ wanted)) ≡ Err (PoolFull 1 cap)
  keys_are_full cap law well node there kind is rest more (inr past) wanted made =
      let count = taken_count (link_words_of store 1) links o.settled.long o.settled.stay in
      let e : length taken ≡ length (pointer_taken_of (link_words_of store 1) links) = ap length o.taken_are in
      let filled : filled_count (link_words_of store 1) ≡ live_count (pool_of store 1) = o.filled in
      words_past cap links law well node there kind is beside_keys (let h : count_of node.cap < filled_count links = omega arith in h) wanted made
  keys_are_full cap law well node there kind is rest more (inl ran) wanted made = go (is_dry v) full refl refl (sym o.ran_dry ∙ ran)
    where
      go : (d f : Bool) → is_dry v ≡ d → full ≡ f → (is_dry v || full) ≡ true
          → (old : List Coord) → IsOpenThrough store old (old ++ wanted) 0 → unless_full (first_full store.shape (old ++ wanted)) ≡ Err (PoolFull 1 cap)
      go true f dries fills one =
          let filled : full_words (link_words_of store 1) ≡ live_count (pool_of store 1) = o.filled in
          let past : count_of node.cap < full_words links = o.settled.filled (count_of node.cap) (omega arith) dries in
          words_past cap links law well node there kind is beside_keys past wanted made
      go false true dries fills one =
          let all : full_words keys ≡ length keys = o.key_words.filled fills in
          let long : length keys ≡ length (keys_of store 1) = o.key_words.long in
          let past : count_of node.cap < full_words keys = omega arith in
          words_past cap keys law well node there kind is (λ place some. some) past wanted made
      go false false dries fills one = absurd (false≢true (sym (ap (λ d. d || full) dries ∙ fills) ∙ one))

-- numbers of 32 bits, read as a slice
pub stock_numbers : (read stock : List ℕ) → read ≡ stock → ((t : ℕ) → slice_index read t < 2 ^ 32) → (t : ℕ) → slice_index stock t < 2 ^ 32
stock_numbers read stock is numbers = subst (λ l. (t : ℕ) → slice_index l t < 2 ^ 32) is numbers

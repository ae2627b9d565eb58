-- Each point of the race invariant where the workers changed in nothing that the point speaks of; and the points on words alone.
use Rattle.std.proofs.Common.{◌≡◌, ℕ, zero, suc, ◌+◌, ◌/◌, ◌<◌, ◌≤◌, ◌≢◌, ◌⊎◌, inl, inr, ⊎_elim, min, max, ◌==◌, List, [], ◌∷◌, ◌++◌, length, set, refl, sym, ap, ◌∙◌, subst, arith}
use Rattle.std.specs.Prelude.{slice_index}
use Rattle.std.proofs.lemmas.List.{length-set, length-append}
use mathlib.Core.Option.{some, some-ne-none}
use lib.ListN.{get_elem?}
use Rattle.sg_words.specs.declared.race.Worker.{Worker}
use Rattle.sg_words.specs.Counts.{one, total, greatest, bit_in}
use Rattle.sg_words.specs.RaceMachine.{Setting, nobody, newcomer, after_split, other_half, after_join}
use Rattle.sg_words.specs.RaceInvariant.{holds_ticket, held_past, TicketsStandOnce, has_made, has_linked, LinksAreMade, has_seen, has_key, SeenIsThere, SeenKeysAreThere, Standing, handed_share, all_shares, Team, has_put, KeysArePut, has_marked, BitsAreMarked, raised_to, LengthsAreRaised, fold_all, CellsAreFolded, links_made, Tally}
use Rattle.sg_words.proofs.RaceTotals.{total-set, total-same, total-snoc, total-join, total-append, each-set, each-snoc}

module _ (ws vs : List Worker) where
  pub tickets-as : (node : ℕ → ℕ) (stock : ℕ → List ℕ) (counts : List ℕ) → ((l t : ℕ) → total (holds_ticket node l t) vs ≡ total (holds_ticket node l t) ws)
      → ((l t : ℕ) → total (held_past l t) vs ≡ total (held_past l t) ws) → TicketsStandOnce node stock counts ws → TicketsStandOnce node stock counts vs
  tickets-as node stock counts a b k = record { within = λ l t. a l t ∙ k.within l t; beyond = λ l t. b l t ∙ k.beyond l t }

  pub links-as : (g : Setting) (slots : List ℕ) → ((i t : ℕ) → total (has_made i t) vs ≡ total (has_made i t) ws)
      → ((i : ℕ) → total (has_linked i) vs ≡ total (has_linked i) ws) → LinksAreMade g slots ws → LinksAreMade g slots vs
  links-as g slots a b k = record {
    made = λ i t h. k.made i t (subst (λ n. 0 < n) (a i t) h);
    bare = λ i e z. k.bare i e (sym (b i) ∙ z);
  }

  pub seen-as : (slots : List ℕ) → ((i n : ℕ) → total (has_seen i n) vs ≡ total (has_seen i n) ws) → SeenIsThere slots ws → SeenIsThere slots vs
  seen-as slots a k i n h = k i n (subst (λ n. 0 < n) (a i n) h)

  pub seen_keys-as : (keys : List ℕ) → ((i n : ℕ) → total (has_key i n) vs ≡ total (has_key i n) ws) → SeenKeysAreThere keys ws → SeenKeysAreThere keys vs
  seen_keys-as slots a k i n h = k i n (subst (λ n. 0 < n) (a i n) h)

  pub keys-as : (g : Setting) (keys : List ℕ) → ((k : ℕ) → total (has_put k) vs ≡ total (has_put k) ws) → KeysArePut g keys ws → KeysArePut g keys vs
  keys-as g keys a h = record { probed = h.probed; put = λ p k e e'. subst (λ n. 0 < n) (sym (a k)) (h.put p k e e') }

  pub bits-as : (g : Setting) (masks : List ℕ) → ((b : ℕ) → total (has_marked b) vs ≡ total (has_marked b) ws) → BitsAreMarked g masks ws → BitsAreMarked g masks vs
  bits-as g masks a h = (h.0, λ b. h.1 b ∙ ap (λ n. min 1 (bit_in g.masks b + n)) (sym (a b)))

  pub lengths-as : (g : Setting) (lengths : List ℕ) → ((q : ℕ) → greatest (raised_to q) vs ≡ greatest (raised_to q) ws) → LengthsAreRaised g lengths ws → LengthsAreRaised g lengths vs
  lengths-as g lengths a h = (h.0, λ q. h.1 q ∙ ap (λ n. max (slice_index g.lengths q) n) (sym (a q)))

  pub cells-as : (g : Setting) (cells : List ℕ) → ((c a : ℕ) → fold_all g.into c a vs ≡ fold_all g.into c a ws) → CellsAreFolded g cells ws → CellsAreFolded g cells vs
  cells-as g cells e h = (h.0, λ c below. h.1 c below ∙ sym (e c (slice_index g.cells c)))

  pub tally-as : (g : Setting) (slots : List ℕ) → ((l : ℕ) → total (links_made g.node l) vs ≡ total (links_made g.node l) ws) → Tally g slots ws → Tally g slots vs
  tally-as g slots a h l = let e = h l in let e' = a l in omega arith

-- ---- the team
all_shares-set : (ws : List Worker) (id : ℕ) (w : Worker) → all_shares (set ws id w) ≡ all_shares ws
all_shares-set [] id w = refl
all_shares-set (v ∷ vs) zero w = refl
all_shares-set (v ∷ vs) (suc id) w = refl

all_shares-snoc : (ws : List Worker) (id : ℕ) (v w : Worker) → get_elem? ws id ≡ some v → all_shares (ws ++ w ∷ []) ≡ all_shares ws
all_shares-snoc [] id v w e = absurd (some-ne-none v (sym e))
all_shares-snoc (x ∷ xs) id v w e = refl

pub team-set : (ws : List Worker) (id : ℕ) (v w : Worker) → get_elem? ws id ≡ some v → w.size ≡ v.size → handed_share w ≡ handed_share v → Standing w → Team ws → Team (set ws id w)
team-set ws id v w at size same st k = record {
  each = each-set (λ v. (v ≡ nobody) ⊎ Standing v) ws id w k.each (inr st);
  sizes = total-same (λ v. v.size) ws id v w at size ∙ k.sizes ∙ sym (length-set ws id w);
  shares = total-same handed_share ws id v w at same ∙ k.shares ∙ sym (all_shares-set ws id w);
}

pub here : (ws : List Worker) (id : ℕ) (v w : Worker) → get_elem? ws id ≡ some v → get_elem? (set ws id w) id ≡ some w
here [] id v w e = absurd (some-ne-none v (sym e))
here (x ∷ xs) zero v w e = refl
here (x ∷ xs) (suc id) v w e = here xs id v w e

pub standing-split : (v : Worker) → 2 ≤ v.share → Standing v → Standing (after_split v)
standing-split v h st = record { share = omega arith; size = st.size; spare = st.spare; left = st.left; past = st.past }

pub standing-newcomer : (told : List ℕ) (share : ℕ) → 1 ≤ share → Standing (newcomer told share)
standing-newcomer told share h = record { share = h; size = omega arith; spare = λ l. omega arith; left = λ l. omega arith; past = λ l. omega arith }

pub team-split : (ws : List Worker) (id : ℕ) (v : Worker) → get_elem? ws id ≡ some v → 2 ≤ v.share → Standing v → Team ws → Team (set ws id (after_split v) ++ other_half v ∷ [])
team-split ws id v at h st k =
    let left = after_split v in
    let right = other_half v in
    let size = total-snoc (λ (v : Worker). v.size) (set ws id left) right in
    let share = total-snoc handed_share (set ws id left) right in
    let size' = total-same (λ (v : Worker). v.size) ws id v left at refl in
    let share' = total-set handed_share ws id v left at in
    let many = length-append (set ws id left) (right ∷ []) in
    let long = length-set ws id left in
    let shares = k.shares in
    let sizes = k.sizes in
    let all : all_shares (set ws id left ++ right ∷ []) ≡ all_shares ws = all_shares-snoc (set ws id left) id left right (here ws id v left at) ∙ all_shares-set ws id left in
    let sum : total handed_share (set ws id left ++ right ∷ []) ≡ all_shares ws = omega arith in
    record {
      each = each-snoc (λ v. (v ≡ nobody) ⊎ Standing v) (set ws id left) right (each-set (λ v. (v ≡ nobody) ⊎ Standing v) ws id left k.each (inr (standing-split v h st))) (inr (standing-newcomer v.told (v.share / 2) (omega arith)));
      sizes = omega arith;
      shares = sum ∙ sym all;
    }

pub standing-join : (v w : Worker) → Standing v → Standing w → Standing (after_join v w)
standing-join v w a b = record {
  share = a.share;
  size = (let x = a.size in let y = b.size in let z = b.share in omega arith);
  spare = a.spare;
  left = λ l.
      (let x = a.left l in let y = b.left l in let z = b.spare l in
      let p = total-append (λ (x : ℕ × ℕ). one (x.0 == l)) v.left (w.left ++ w.spare) in
      let q = total-append (λ (x : ℕ × ℕ). one (x.0 == l)) w.left w.spare in omega arith);
  past = λ l.
      (let x = a.past l in let y = b.past l in
      let p = total-append (λ (x : ℕ × ℕ). one (x.0 == l)) v.past w.past in omega arith);
}

pub team-join : (ws : List Worker) (i j : ℕ) (v w : Worker) → j ≢ i → get_elem? ws i ≡ some v → get_elem? ws j ≡ some w → Standing v → Standing w → Team ws
    → Team (set (set ws i (after_join v w)) j nobody)
team-join ws i j v w n at at' a b k =
    let both = after_join v w in
    let long : length (set (set ws i both) j nobody) ≡ length ws = length-set (set ws i both) j nobody ∙ length-set ws i both in
    let all : all_shares (set (set ws i both) j nobody) ≡ all_shares ws = all_shares-set (set ws i both) j nobody ∙ all_shares-set ws i both in
    record {
      each = each-set (λ v. (v ≡ nobody) ⊎ Standing v) (set ws i both) j nobody (each-set (λ v. (v ≡ nobody) ⊎ Standing v) ws i both k.each (inr (standing-join v w a b))) (inl refl);
      sizes = total-join (λ v. v.size) ws i j v w both nobody n at at' (omega arith) ∙ k.sizes ∙ sym long;
      shares = total-join handed_share ws i j v w both nobody n at at' (omega arith) ∙ k.shares ∙ sym all;
    }

-- a worker with a share stands
pub stands : (ws : List Worker) (id : ℕ) (v : Worker) → Team ws → get_elem? ws id ≡ some v → 0 < v.share → Standing v
stands ws id v k at h = ⊎_elim (λ e. absurd (let z : v.share ≡ 0 = ap (λ (u : Worker). u.share) e in omega arith)) (λ s. s) (k.each id v at)

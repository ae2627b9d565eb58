-- A seat after an event knows all that it did before.
use Rattle.std.proofs.Common.{◌≡◌, ℕ, ◌+◌, ◌-◌, ◌<◌, ◌≢◌, ◌⊎◌, inl, inr, ◌&&◌, ◌==◌, List, [], ◌∷◌, ◌++◌, length, replicate, set, refl, sym, ap, ◌∙◌, subst, arith}
use Rattle.std.specs.Prelude.{slice_index}
use Rattle.std.proofs.lemmas.List.{get_or-set_same, get_or-set_other}
use mathlib.Core.Logic.{dite}
use native.Mathlib.Decide.{ℕ_discrete}
use Rattle.sg_words.specs.declared.race.Worker.{Worker}
use Rattle.sg_words.specs.Counts.{one, pairs, firsts, times_in}
use Rattle.sg_words.specs.RaceMachine.{after_see, after_miss, after_link, after_draw, after_mark, after_split, after_join}
use Rattle.sg_words.specs.steps.RaceSteps.{after_look, after_try}
use Rattle.sg_words.proofs.Uses.{found_case, total-append, pairs-snoc, pair_cases, first_cases, total-snoc}
use Rattle.sg_activate.specs.Descending.{KnowsMore}
use Rattle.sg_activate.specs.steps.DescentSeats.{AreRemembered}
use Rattle.sg_activate.proofs.DescentViews.{draw_case, zeros}

pairs-more : (i n : ℕ) (xs ys : List (ℕ × ℕ)) → 0 < pairs i n xs → 0 < pairs i n (xs ++ ys)
pairs-more i n xs ys has = let a = total-append (λ (x : ℕ × ℕ). one ((x.0 == i) && (x.1 == n))) xs ys in omega arith

firsts-more : (l : ℕ) (xs ys : List (ℕ × ℕ)) → 0 < firsts l xs → 0 < firsts l (xs ++ ys)
firsts-more l xs ys has = let a = total-append (λ (x : ℕ × ℕ). one (x.0 == l)) xs ys in omega arith

times-more : (b : ℕ) (xs ys : List ℕ) → 0 < times_in b xs → 0 < times_in b (xs ++ ys)
times-more b xs ys has = let a = total-append (λ (x : ℕ). one (x == b)) xs ys in omega arith

pub more-same : (v : Worker) → KnowsMore v v
more-same v = record { seen = λ i n h. h; marked = λ b h. h; missed = λ i h. h; past = λ l h. h; told = refl; share = refl; back = refl; size = refl; left = refl }

pub more-then : (v w u : Worker) → KnowsMore v w → KnowsMore w u → KnowsMore v u
more-then v w u a b = record {
  seen = λ i n h. b.seen i n (a.seen i n h);
  marked = λ i h. b.marked i (a.marked i h);
  missed = λ i h. b.missed i (a.missed i h);
  past = λ l h. b.past l (a.past l h);
  told = b.told ∙ a.told;
  share = b.share ∙ a.share;
  back = b.back ∙ a.back;
  size = b.size ∙ a.size;
  left = b.left ∙ a.left;
}

see-more : (i n : ℕ) (v : Worker) → KnowsMore v (after_see i n v)
see-more i n v = record { seen = λ j m h. pairs-more j m v.seen ((i, n) ∷ []) h; marked = λ b h. h; missed = λ i h. h; past = λ l h. h; told = refl; share = refl; back = refl; size = refl; left = refl }

miss-more : (i : ℕ) (v : Worker) → KnowsMore v (after_miss i v)
miss-more i v = record { seen = λ j m h. h; marked = λ b h. h; missed = λ j h. times-more j v.missed (i ∷ []) h; past = λ l h. h; told = refl; share = refl; back = refl; size = refl; left = refl }

link-more : (l i t n : ℕ) (v : Worker) → KnowsMore v (after_link l i t n v)
link-more l i t n v = record { seen = λ j m h. pairs-more j m v.seen ((i, n) ∷ []) h; marked = λ b h. h; missed = λ i h. h; past = λ l h. h; told = refl; share = refl; back = refl; size = refl; left = refl }

pub mark-more : (b : ℕ) (v w : Worker) → w ≡ after_mark b v → KnowsMore v w
mark-more b v w e = subst (KnowsMore v) (sym e) (record { seen = λ j m h. h; marked = λ c h. times-more c v.marked (b ∷ []) h; missed = λ j h. h; past = λ l h. h; told = refl; share = refl; back = refl; size = refl; left = refl })

pub look-more : (i word : ℕ) (v w : Worker) → w ≡ after_look i word v → KnowsMore v w
look-more i word v w e = subst (KnowsMore v) (sym e) (found_case (KnowsMore v) word (after_miss i v) (after_see i (word - 1) v) (λ _. miss-more i v) (λ _. see-more i (word - 1) v))

pub try-more : (l i t n word : ℕ) (v w : Worker) → w ≡ after_try l i t n word v → KnowsMore v w
try-more l i t n word v w e = subst (KnowsMore v) (sym e) (found_case (KnowsMore v) word (after_link l i t n v) (after_see i (word - 1) v) (λ _. link-more l i t n v) (λ _. see-more i (word - 1) v))

pub draw-more : (l limit n : ℕ) (v w : Worker) → w ≡ after_draw l limit n v → KnowsMore v w
draw-more l limit n v w e = subst (KnowsMore v) (sym e) (draw_case (KnowsMore v) l limit n v
    (λ _. record { seen = λ j m h. h; marked = λ b h. h; missed = λ j h. h; past = λ l h. h; told = refl; share = refl; back = refl; size = refl; left = refl })
    (λ _. record { seen = λ j m h. h; marked = λ b h. h; missed = λ j h. h; past = λ m h. firsts-more m v.past ((l, n) ∷ []) h; told = refl; share = refl; back = refl; size = refl; left = refl }))

-- ---- what an event adds
here-pair : (i n : ℕ) (xs : List (ℕ × ℕ)) → 0 < pairs i n (xs ++ (i, n) ∷ [])
here-pair i n xs =
    let e = pairs-snoc i n xs (i, n) in
    let h : 0 < one ((i == i) && (n == n)) = pair_cases (λ k. 0 < k) i n i n (λ _ _. omega arith) (λ other. absurd (other refl refl)) in omega arith

here-number : (b : ℕ) (xs : List ℕ) → 0 < times_in b (xs ++ b ∷ [])
here-number b xs =
    let e = total-snoc (λ (x : ℕ). one (x == b)) xs b in
    let h : 0 < one (b == b) = first_cases (λ k. 0 < k) b b (λ _. omega arith) (λ other. absurd (other refl)) in omega arith

pub marked-here : (b : ℕ) (v w : Worker) → w ≡ after_mark b v → 0 < times_in b w.marked
marked-here b v w e = subst (λ (w : Worker). 0 < times_in b w.marked) (sym e) (here-number b v.marked)

pub seen-here : (i word : ℕ) (v w : Worker) → w ≡ after_look i word v → word ≢ 0 → 0 < pairs i (word - 1) w.seen
seen-here i word v w e full = subst (λ (w : Worker). 0 < pairs i (word - 1) w.seen) (sym e)
    (found_case (λ (w : Worker). 0 < pairs i (word - 1) w.seen) word (after_miss i v) (after_see i (word - 1) v) (λ empty. absurd (full empty)) (λ _. here-pair i (word - 1) v.seen))

pub missed-here : (i word : ℕ) (v w : Worker) → w ≡ after_look i word v → word ≡ 0 → 0 < times_in i w.missed
missed-here i word v w e empty = subst (λ (w : Worker). 0 < times_in i w.missed) (sym e)
    (found_case (λ (w : Worker). 0 < times_in i w.missed) word (after_miss i v) (after_see i (word - 1) v) (λ _. here-number i v.missed) (λ full. absurd (full empty)))

-- after an exchange the slot's number was seen, whoever put it
pub tried-here : (l i t n word result : ℕ) (v w : Worker) → w ≡ after_try l i t n word v → (word ≡ 0 → result ≡ n) → (word ≢ 0 → word ≡ result + 1) → 0 < pairs i result w.seen
tried-here l i t n word result v w e won lost = subst (λ (w : Worker). 0 < pairs i result w.seen) (sym e)
    (found_case (λ (w : Worker). 0 < pairs i result w.seen) word (after_link l i t n v) (after_see i (word - 1) v)
    (λ empty. subst (λ r. 0 < pairs i r (after_link l i t n v).seen) (sym (won empty)) (here-pair i n v.seen))
    (λ full. let r : result ≡ word - 1 = (let h = lost full in omega arith) in subst (λ r. 0 < pairs i r (after_see i (word - 1) v).seen) (sym r) (here-pair i (word - 1) v.seen)))

-- ---- what was made and marked since
pub made-looked : (i word : ℕ) (v w : Worker) → w ≡ after_look i word v → (w.made ≡ v.made) × (w.marked ≡ v.marked)
made-looked i word v w e = subst (λ (w : Worker). (w.made ≡ v.made) × (w.marked ≡ v.marked)) (sym e)
    (found_case (λ (w : Worker). (w.made ≡ v.made) × (w.marked ≡ v.marked)) word (after_miss i v) (after_see i (word - 1) v) (λ _. (refl, refl)) (λ _. (refl, refl)))

pub made-drawn : (l limit n : ℕ) (v w : Worker) → w ≡ after_draw l limit n v → (w.made ≡ v.made) × (w.marked ≡ v.marked)
made-drawn l limit n v w e = subst (λ (w : Worker). (w.made ≡ v.made) × (w.marked ≡ v.marked)) (sym e)
    (draw_case (λ (w : Worker). (w.made ≡ v.made) × (w.marked ≡ v.marked)) l limit n v (λ _. (refl, refl)) (λ _. (refl, refl)))

abbrev GrewAt : Worker → ℕ → Worker → Type 0
GrewAt v i w = ((j u : ℕ) → 0 < pairs j u w.made → (0 < pairs j u v.made) ⊎ (j ≡ i)) × (w.marked ≡ v.marked)

one_made : (i t : ℕ) (v : Worker) (j u : ℕ) → 0 < pairs j u (v.made ++ (i, t) ∷ []) → (0 < pairs j u v.made) ⊎ (j ≡ i)
one_made i t v j u has =
    let s = pairs-snoc j u v.made (i, t) in
    pair_cases (λ k. 0 < pairs j u v.made + k → (0 < pairs j u v.made) ⊎ (j ≡ i)) i t j u (λ same _ _. inr (sym same)) (λ _ h. inl (omega arith)) (omega arith)

-- a mark adds its bit
pub one_marked : (b : ℕ) (v : Worker) (c : ℕ) → 0 < times_in c (v.marked ++ b ∷ []) → (0 < times_in c v.marked) ⊎ (c ≡ b)
one_marked b v c has =
    let s = total-snoc (λ (x : ℕ). one (x == c)) v.marked b in
    first_cases (λ k. 0 < times_in c v.marked + k → (0 < times_in c v.marked) ⊎ (c ≡ b)) b c (λ same _. inr (sym same)) (λ _ h. inl (omega arith)) (omega arith)

pub made-tried : (l i t n word : ℕ) (v w : Worker) → w ≡ after_try l i t n word v → GrewAt v i w
made-tried l i t n word v w e = subst (GrewAt v i) (sym e)
    (found_case (GrewAt v i) word (after_link l i t n v) (after_see i (word - 1) v) (λ _. ((λ j u has. one_made i t v j u has), refl)) (λ _. ((λ j u has. inl has), refl)))

-- ---- between finding a slot empty and trying it
pub provided-more : (l limit : ℕ) (v w : Worker) → (w ≡ v) ⊎ ((n : ℕ) × (w ≡ after_draw l limit n v)) → KnowsMore v w
provided-more l limit v w (inl same) = subst (KnowsMore v) (sym same) (more-same v)
provided-more l limit v w (inr (n, drawn)) = draw-more l limit n v w drawn

pub made-provided : (l limit : ℕ) (v w : Worker) → (w ≡ v) ⊎ ((n : ℕ) × (w ≡ after_draw l limit n v)) → (w.made ≡ v.made) × (w.marked ≡ v.marked)
made-provided l limit v w (inl same) = (ap (λ (w : Worker). w.made) same, ap (λ (w : Worker). w.marked) same)
made-provided l limit v w (inr (n, drawn)) = made-drawn l limit n v w drawn

pub made-asked : (l limit i word t n word' : ℕ) (v a b w : Worker) → a ≡ after_look i word v → (b ≡ a) ⊎ ((m : ℕ) × (b ≡ after_draw l limit m a)) → w ≡ after_try l i t n word' b
    → (j u : ℕ) → 0 < pairs j u w.made → (0 < pairs j u v.made) ⊎ (j ≡ i)
made-asked l limit i word t n word' v a b w looked provided tried j u has =
    let one = (made-looked i word v a looked).0 in
    let two = (made-provided l limit a b provided).0 in
    subst (λ (xs : List (ℕ × ℕ)). (0 < pairs j u xs) ⊎ (j ≡ i)) (two ∙ one) ((made-tried l i t n word' b w tried).0 j u has)

pub marked-asked : (l limit i word t n word' : ℕ) (v a b w : Worker) → a ≡ after_look i word v → (b ≡ a) ⊎ ((m : ℕ) × (b ≡ after_draw l limit m a)) → w ≡ after_try l i t n word' b → w.marked ≡ v.marked
marked-asked l limit i word t n word' v a b w looked provided tried =
    (made-tried l i t n word' b w tried).1 ∙ (made-provided l limit a b provided).1 ∙ (made-looked i word v a looked).1

-- ---- the bits that a seat remembers
pub bits-more : (bits : List ℕ) (v w : Worker) → KnowsMore v w → AreRemembered bits v → AreRemembered bits w
bits-more bits v w more are k some = more.marked (slice_index bits k - 1) (are k some)

pub bits-split : (bits : List ℕ) (v w : Worker) → w ≡ after_split v → AreRemembered bits v → AreRemembered bits w
bits-split bits v w e are = subst (AreRemembered bits) (sym e) are

pub bits-join : (bits : List ℕ) (v w u : Worker) → u ≡ after_join v w → AreRemembered bits v → AreRemembered bits u
bits-join bits v w u e are = subst (AreRemembered bits) (sym e) (λ k some. times-more (slice_index bits k - 1) v.marked w.marked (are k some))

-- a new seat remembers none
pub new-bits : (v : Worker) → AreRemembered (replicate 6 0) v
new-bits v k some = absurd (let none = zeros 6 k in omega arith)

pub bit-is : (bits : List ℕ) (v : Worker) (k b : ℕ) → AreRemembered bits v → slice_index bits k ≡ b + 1 → 0 < times_in b v.marked
bit-is bits v k b are is = let e : slice_index bits k - 1 ≡ b = omega arith in subst (λ b. 0 < times_in b v.marked) e (are k (omega arith))

pub bits-set : (bits : List ℕ) (v : Worker) (k b : ℕ) → k < length bits → 0 < times_in b v.marked → AreRemembered bits v → AreRemembered (set bits k (b + 1)) v
bits-set bits v k b below has are m some = dite (ℕ_discrete k m)
    (λ same. let here : slice_index (set bits k (b + 1)) m ≡ b + 1 = subst (λ m. slice_index (set bits k (b + 1)) m ≡ b + 1) same (get_or-set_same bits k (b + 1) 0 below) in
    let e : slice_index (set bits k (b + 1)) m - 1 ≡ b = omega arith in
    subst (λ b. 0 < times_in b v.marked) (sym e) has)
    (λ other. let there : slice_index (set bits k (b + 1)) m ≡ slice_index bits m = get_or-set_other bits k m (b + 1) 0 (λ h. other (sym h)) in
    subst (λ n. 0 < times_in (n - 1) v.marked) (sym there) (are m (omega arith)))

-- a bit that was marked, or is marked now
pub once-more : (b : ℕ) (v w : Worker) → (w ≡ v) ⊎ (w ≡ after_mark b v) → KnowsMore v w
once-more b v w (inl same) = subst (KnowsMore v) (sym same) (more-same v)
once-more b v w (inr marked) = mark-more b v w marked

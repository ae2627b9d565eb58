-- Loops that place the links of stores, and write the changes of layouts.
use Rattle.std.proofs.Common.{◌≡◌, ◌⊎◌, inl, inr, ℕ, zero, suc, ◌+◌, ◌-◌, ◌*◌, ◌<◌, ◌≤◌, min, List, [], ◌∷◌, ◌++◌, length, map, take, drop, get_or, refl, sym, ap, ◌∙◌, subst, arith, append_assoc, append-nil}
use Rattle.std.specs.List.{AllZip}
use Rattle.std.proofs.lemmas.Bool.{cases_lt}
use Rattle.std.proofs.lemmas.Nat.{div_below}
use Rattle.std.proofs.lemmas.Option.{none-some, slice_get_past}
use Rattle.std.proofs.lemmas.List.{take_more, drop_more, drop_all, get_or_past, get_or_append_left, get_or_push, length-append}
use Rattle.std.proofs.lemmas.List.Concat.{flat_map-append}
use Rattle.sg_words.proofs.Uses.{contains_none}
use Rattle.sg_dynamic.specs.Chunks.{chunks_of}
use Rattle.sg_store.specs.declared.links.LinkAt.{LinkAt}
use Rattle.sg_store.specs.StoreWords.{StoreWords}
use Rattle.sg_store.specs.Links.{AreLinks}
use Rattle.sg_journal.specs.declared.lines.Line.{Line}
use Rattle.sg_journal.specs.Lines.{line_text, lines_text}
use Rattle.sg_journal.specs.Placing.{LayoutLinks, Placing, links_in, ArePlacedIn, ArePlaced}
use Rattle.sg_journal.specs.Changes.{lacking, free_line, take_line, frees_upto, takes_upto, changes_from}

pub take_next : {X : Type 0} (xs : List X) (i : ℕ) (x : X) → i < length xs → x ≡ get_or xs i x → take (i + 1) xs ≡ take i xs ++ x ∷ []
take_next {X} xs i x below is = take_more xs i x below ∙ ap (λ (y : X). take i xs ++ y ∷ []) (sym is)

zip_push : {X Y : Type 0} (R : X → Y → Type 0) (xs : List X) (ys : List Y) (x : X) (y : Y) → AllZip R xs ys → R x y → AllZip R (xs ++ x ∷ []) (ys ++ y ∷ [])
zip_push R [] [] x y all is = (is, tt)
zip_push R [] (z ∷ ys) x y all is = absurd all
zip_push R (w ∷ xs) [] x y all is = absurd all
zip_push R (w ∷ xs) (z ∷ ys) x y all is = (all.0, zip_push R xs ys x y all.1 is)

-- ---- the stores of layouts

pub placed_next : (stores : List StoreWords) (i : ℕ) (store : StoreWords) (so_far more : Placing) (nodes : LayoutLinks) → i < length stores → store ≡ get_or stores i store → more ≡ so_far ++ nodes ∷ [] → ArePlaced (take i stores) so_far → ArePlacedIn store nodes
    → ArePlaced (take (i + 1) stores) more
placed_next stores i store so_far more nodes below is more_is placed own =
    subst (λ (p : Placing). ArePlaced (take (i + 1) stores) p) (sym more_is)
    (subst (λ (s : List StoreWords). ArePlaced s (so_far ++ nodes ∷ [])) (sym (take_next stores i store below is)) (zip_push ArePlacedIn (take i stores) so_far store nodes placed own))

-- ---- the nodes of a store

pub record ArePlacedSoFar (store : StoreWords) (so_far : ℕ) (nodes : LayoutLinks) : Type 0 where
  pub many : length nodes ≡ so_far
  pub links : (index : ℕ) → index < so_far → AreLinks store index (links_in nodes index)

pub none_so_far : (store : StoreWords) → ArePlacedSoFar store 0 []
none_so_far store = record { many = refl; links = λ index below. absurd (omega (arith, below)) }

pub one_so_far : (store : StoreWords) (so_far : ℕ) (nodes more : LayoutLinks) (links : List LinkAt) → more ≡ nodes ++ links ∷ [] → AreLinks store so_far links → ArePlacedSoFar store so_far nodes → ArePlacedSoFar store (so_far + 1) more
one_so_far store so_far nodes more links more_is are placed = record {
  many = ap length more_is ∙ length-append nodes (links ∷ []) ∙ ap (λ n. n + 1) placed.many;
  links = λ index below. elim (cases_lt index so_far) [
    | inl before ↦
        let same : links_in more index ≡ links_in nodes index = ap (λ (l : LayoutLinks). links_in l index) more_is ∙ get_or_append_left nodes (links ∷ []) [] index (omega (arith, before, placed.many)) in
        subst (λ (l : List LinkAt). AreLinks store index l) (sym same) (placed.links index before)
    | inr past ↦
        let here : index ≡ so_far = omega (arith, below, past) in
        let same : links_in more index ≡ links = ap (λ (l : LayoutLinks). links_in l index) more_is ∙ get_or_push nodes links [] index (placed.many ∙ sym here) in
        subst (λ (l : List LinkAt). AreLinks store index l) (sym same) (subst (λ i. AreLinks store i links) (sym here) are)
  ];
}

-- past the last node there are no links
past_nodes : (store : StoreWords) (index : ℕ) → length store.shape.nodes ≤ index → AreLinks store index []
past_nodes store index past = record {
  members = λ link. ((λ has. absurd (contains_none link has)), (λ is. absurd (none-some is.node (sym (slice_get_past store.shape.nodes index past) ∙ is.node_there))));
  rising = λ i j d before below. absurd (omega (arith, below));
}

pub all_so_far : (store : StoreWords) (so_far : ℕ) (nodes : LayoutLinks) → so_far ≡ length store.shape.nodes → ArePlacedSoFar store so_far nodes → ArePlacedIn store nodes
all_so_far store so_far nodes all placed = record {
  as_many = placed.many ∙ all;
  links = λ index. elim (cases_lt index so_far) [
    | inl before ↦ placed.links index before
    | inr past ↦ subst (λ (l : List LinkAt). AreLinks store index l) (sym (get_or_past nodes index [] (omega (arith, placed.many, past)))) (past_nodes store index (omega (arith, all, past)))
  ];
}

-- ---- lines

pub lines_append : (xs ys : List Line) → lines_text (xs ++ ys) ≡ lines_text xs ++ lines_text ys
lines_append xs ys = flat_map-append line_text xs ys

pub frees_next : (layout : ℕ) (old new : LayoutLinks) (left index : ℕ) (before after whole : List ℕ) → left ≡ suc index
    → after ≡ before ++ lines_text (map (free_line layout (index + 1)) (lacking (links_in new index) (links_in old index)))
    → before ++ lines_text (frees_upto layout old new left) ≡ whole → after ++ lines_text (frees_upto layout old new index) ≡ whole
frees_next layout old new left index before after whole left_is after_is invariant =
    let node : index + 1 ≡ suc index = omega arith in
    let block : List Line = map (free_line layout (suc index)) (lacking (links_in new index) (links_in old index)) in
    ap (λ (t : List ℕ). t ++ lines_text (frees_upto layout old new index)) (after_is ∙ ap (λ n. before ++ lines_text (map (free_line layout n) (lacking (links_in new index) (links_in old index)))) node)
    ∙ append_assoc before (lines_text block) (lines_text (frees_upto layout old new index))
    ∙ ap (λ (t : List ℕ). before ++ t) (sym (lines_append block (frees_upto layout old new index)))
    ∙ ap (λ n. before ++ lines_text (frees_upto layout old new n)) (sym left_is)
    ∙ invariant

pub takes_next : (layout : ℕ) (old new : LayoutLinks) (index : ℕ) (start before after : List ℕ)
    → after ≡ before ++ lines_text (map (take_line layout (index + 1)) (lacking (links_in old index) (links_in new index)))
    → before ≡ start ++ lines_text (takes_upto layout old new index) → after ≡ start ++ lines_text (takes_upto layout old new (index + 1))
takes_next layout old new index start before after after_is invariant =
    let node : index + 1 ≡ suc index = omega arith in
    let block : List Line = map (take_line layout (suc index)) (lacking (links_in old index) (links_in new index)) in
    after_is
    ∙ ap (λ n. before ++ lines_text (map (take_line layout n) (lacking (links_in old index) (links_in new index)))) node
    ∙ ap (λ (t : List ℕ). t ++ lines_text block) invariant
    ∙ append_assoc start (lines_text (takes_upto layout old new index)) (lines_text block)
    ∙ ap (λ (t : List ℕ). start ++ t) (sym (lines_append (takes_upto layout old new index) block))
    ∙ ap (λ n. start ++ lines_text (takes_upto layout old new n)) (sym node)

-- the changes of layouts from one on
pub changes_next : (olds news : Placing) (layout : ℕ) (old new : LayoutLinks) (before between after whole : List ℕ) → layout < length olds → layout < length news → old ≡ get_or olds layout old → new ≡ get_or news layout new
    → between ≡ before ++ lines_text (frees_upto layout old new (length old)) → after ≡ between ++ lines_text (takes_upto layout old new (length new))
    → before ++ lines_text (changes_from layout (drop layout olds) (drop layout news)) ≡ whole
    → after ++ lines_text (changes_from (layout + 1) (drop (layout + 1) olds) (drop (layout + 1) news)) ≡ whole
changes_next olds news layout old new before between after whole in_olds in_news old_is new_is between_is after_is invariant =
    let next : layout + 1 ≡ suc layout = omega arith in
    let rest : List Line = changes_from (suc layout) (drop (layout + 1) olds) (drop (layout + 1) news) in
    let frees : List Line = frees_upto layout old new (length old) in
    let takes : List Line = takes_upto layout old new (length new) in
    let olds_are : drop layout olds ≡ old ∷ drop (layout + 1) olds = drop_more olds layout old in_olds ∙ ap (λ (l : LayoutLinks). l ∷ drop (layout + 1) olds) (sym old_is) in
    let news_are : drop layout news ≡ new ∷ drop (layout + 1) news = drop_more news layout new in_news ∙ ap (λ (l : LayoutLinks). l ∷ drop (layout + 1) news) (sym new_is) in
    ap (λ n. after ++ lines_text (changes_from n (drop (layout + 1) olds) (drop (layout + 1) news))) next
    ∙ ap (λ (t : List ℕ). t ++ lines_text rest) (after_is ∙ ap (λ (t : List ℕ). t ++ lines_text takes) between_is ∙ append_assoc before (lines_text frees) (lines_text takes))
    ∙ append_assoc before (lines_text frees ++ lines_text takes) (lines_text rest)
    ∙ ap (λ (t : List ℕ). before ++ (t ++ lines_text rest)) (sym (lines_append frees takes))
    ∙ ap (λ (t : List ℕ). before ++ t) (sym (lines_append (frees ++ takes) rest))
    ∙ ap (λ (l : Placing). before ++ lines_text (changes_from layout l (new ∷ drop (layout + 1) news))) (sym olds_are)
    ∙ ap (λ (l : Placing). before ++ lines_text (changes_from layout (drop layout olds) l)) (sym news_are)
    ∙ invariant

no_changes : (layout : ℕ) (olds : Placing) → changes_from layout olds [] ≡ []
no_changes layout [] = refl
no_changes layout (old ∷ olds) = refl

-- what is past the smaller of two is past one of them
pub min_over : (a b n : ℕ) → min a b ≤ n → (a ≤ n) ⊎ (b ≤ n)
min_over a b n le = elim (cases_lt n a) [
  | inl below ↦ inr (omega (arith, le, below))
  | inr past ↦ inl past
]

-- at the end of the shorter one there are no more
pub no_more : (olds news : Placing) (end : ℕ) → (length olds ≤ end) ⊎ (length news ≤ end) → changes_from end (drop end olds) (drop end news) ≡ []
no_more olds news end (inl past) = ap (λ (l : Placing). changes_from end l (drop end news)) (drop_all end olds past)
no_more olds news end (inr past) = ap (λ (l : Placing). changes_from end (drop end olds) l) (drop_all end news past) ∙ no_changes end (drop end olds)

pub changes_end : (olds news : Placing) (end : ℕ) (text whole : List ℕ) → (length olds ≤ end) ⊎ (length news ≤ end) → text ++ lines_text (changes_from end (drop end olds) (drop end news)) ≡ whole → text ≡ whole
changes_end olds news end text whole over invariant =
    sym (append-nil text) ∙ ap (λ (l : List Line). text ++ lines_text l) (sym (no_more olds news end over)) ∙ invariant

-- ---- chunks

pub few_chunks : (chunk size : ℕ) → 1 ≤ chunk → chunks_of chunk size ≤ size
few_chunks chunk size some =
    let below : size + (chunk - 1) < (size + 1) * chunk = omega (arith, grown size chunk some) in
    let few : chunks_of chunk size < size + 1 = div_below (size + (chunk - 1)) chunk (size + 1) some below in
    omega (arith, few)
  where
    grown : (x y : ℕ) → 1 ≤ y → x + y ≤ (x + 1) * y
    grown x (suc y) one = omega arith
    grown x zero one = absurd (omega (arith, one))

-- Links from marked nodes to marked ones, and sets of nodes as sets of numbers.
use Rattle.std.specs.Prelude.{◌≡◌, refl, ℕ, Bool, true, false, not, ◌&&◌, ◌||◌, List, [], ◌∷◌, ◌++◌, map}
use Rattle.std.specs.List.{list_all}
use Rattle.std.proofs.Common.{sym, ◌∙◌}
use Rattle.std.proofs.lemmas.Bool.{and_parts, and_from}
use Rattle.std.proofs.lemmas.List.Folds.{list_all-append}
use Rattle.sg_ir.specs.InScope.{AreSet}
use Rattle.sg_words.specs.declared.spreads.Link.{Link}
use Rattle.sg_simplify.specs.steps.Needed.{link_all}
use Rattle.sg_simplify.proofs.KeptTests.{none_set}

-- each link from a marked node leads to a marked one
abbrev pub Along : (ℕ → Bool) → List Link → Type 0
Along marked links = list_all (λ link. not (marked link.from) || marked link.to) links ≡ true

pub along_parts : (marked : ℕ → Bool) (links more : List Link) → Along marked (links ++ more) → Along marked links × Along marked more
along_parts marked links more along =
    and_parts (list_all (λ link. not (marked link.from) || marked link.to) links) (list_all (λ link. not (marked link.from) || marked link.to) more)
    (sym (list_all-append (λ link. not (marked link.from) || marked link.to) links more) ∙ along)

pub along_both : (marked : ℕ → Bool) (links more : List Link) → Along marked links → Along marked more → Along marked (links ++ more)
along_both marked links more one two =
    list_all-append (λ link. not (marked link.from) || marked link.to) links more
    ∙ and_from (list_all (λ link. not (marked link.from) || marked link.to) links) (list_all (λ link. not (marked link.from) || marked link.to) more) one two

pub follows : (a b : Bool) → (not a || b) ≡ true → a ≡ true → b ≡ true
follows true b h e = h
follows false b h e = none_set e

-- from a marked node to marked ones
pub reached : (marked : ℕ → Bool) (from : ℕ) (nodes : List ℕ) → Along marked (link_all from nodes) → marked from ≡ true → AreSet marked nodes
reached marked from [] along on = tt
reached marked from (to ∷ nodes) along on =
    let parts = and_parts (not (marked from) || marked to) (list_all (λ link. not (marked link.from) || marked link.to) (link_all from nodes)) along in
    (follows (marked from) (marked to) parts.0 on, reached marked from nodes parts.1 on)

pub leads : (marked : ℕ → Bool) (from : ℕ) (nodes : List ℕ) → (marked from ≡ true → AreSet marked nodes) → Along marked (link_all from nodes)
leads marked from nodes set = by_test (marked from) refl
  where
    all_on : (rest : List ℕ) → AreSet marked rest → Along marked (link_all from rest)
    all_on [] each = refl
    all_on (to ∷ rest) each = and_from (not (marked from) || marked to) (list_all (λ link. not (marked link.from) || marked link.to) (link_all from rest)) (second (not (marked from)) (marked to) each.0) (all_on rest each.1)
      where
        second : (a b : Bool) → b ≡ true → (a || b) ≡ true
        second true b e = refl
        second false b e = e

    none_on : marked from ≡ false → (rest : List ℕ) → Along marked (link_all from rest)
    none_on off [] = refl
    none_on off (to ∷ rest) = and_from (not (marked from) || marked to) (list_all (λ link. not (marked link.from) || marked link.to) (link_all from rest)) (first (marked from) (marked to) off) (none_on off rest)
      where
        first : (a b : Bool) → a ≡ false → (not a || b) ≡ true
        first true b e = none_set (sym e)
        first false b e = refl

    by_test : (test : Bool) → marked from ≡ test → Along marked (link_all from nodes)
    by_test true is = all_on nodes (set is)
    by_test false is = none_on is nodes

-- sets of nodes as sets of numbers
pub set_parts : (marked : ℕ → Bool) (xs ys : List ℕ) → AreSet marked (xs ++ ys) → AreSet marked xs × AreSet marked ys
set_parts marked [] ys set = (tt, set)
set_parts marked (x ∷ xs) ys set = let more = set_parts marked xs ys set.1 in ((set.0, more.0), more.1)

pub set_both : (marked : ℕ → Bool) (xs ys : List ℕ) → AreSet marked xs → AreSet marked ys → AreSet marked (xs ++ ys)
set_both marked [] ys one two = two
set_both marked (x ∷ xs) ys one two = (one.0, set_both marked xs ys one.1 two)

pub of_nodes : (marked : ℕ → Bool) (node : ℕ → ℕ) (rs : List ℕ) → AreSet marked (map node rs) → AreSet (λ r. marked (node r)) rs
of_nodes marked node [] set = tt
of_nodes marked node (r ∷ rs) set = (set.0, of_nodes marked node rs set.1)

pub to_nodes : (marked : ℕ → Bool) (node : ℕ → ℕ) (kept : ℕ → Bool) → ((r : ℕ) → kept r ≡ true → marked (node r) ≡ true) → (rs : List ℕ) → AreSet kept rs → AreSet marked (map node rs)
to_nodes marked node kept on [] set = tt
to_nodes marked node kept on (r ∷ rs) set = (on r set.0, to_nodes marked node kept on rs set.1)

pub not_both : (a b : Bool) → (a && b) ≡ false → (P : Type 0) → (a ≡ false → P) → (b ≡ false → P) → P
not_both true true e P f g = none_set (sym e)
not_both true false e P f g = g refl
not_both false b e P f g = f refl

-- Worked lines of words.
use Rattle.std.specs.Prelude.{◌≡◌, refl, ℕ, List, [], ◌∷◌, map, Some, None, codes}
use Rattle.sg_ast.specs.Token.{is_name, is_reserved}
use Rattle.sparsegrid.specs.declared.words.Mode.TheVariants as mode
use Rattle.sparsegrid.specs.Words.{good_words}

bare-file : good_words (codes "p.sg" ∷ []) ≡ Some (record { workers = 4; mode = mode.Run; file = codes "p.sg"; from = None; bindings = []; number = 0 })
bare-file = refl

options-anywhere : good_words (codes "p.sg" ∷ codes "--workers=16" ∷ codes "--mode" ∷ codes "check" ∷ []) ≡ Some (record { workers = 16; mode = mode.Check; file = codes "p.sg"; from = None; bindings = []; number = 0 })
options-anywhere = refl

all-positional : good_words (codes "--workers=2" ∷ codes "--" ∷ codes "p.sg" ∷ []) ≡ Some (record { workers = 2; mode = mode.Run; file = codes "p.sg"; from = None; bindings = []; number = 0 })
all-positional = refl

file-with-equals : good_words (codes "p=q" ∷ codes "x=a=b" ∷ codes "y=-" ∷ []) ≡ Some (record {
  workers = 4;
  mode = mode.Run;
  file = codes "p=q";
  from = None;
  bindings = record { name = codes "x"; file = codes "a=b" } ∷ record { name = codes "y"; file = codes "-" } ∷ [];
  number = 0;
})
unfolding is_name is_reserved
file-with-equals = refl

a-number : good_words (codes "--mode" ∷ codes "gen" ∷ codes "7" ∷ []) ≡ Some (record { workers = 4; mode = mode.Gen; file = []; from = None; bindings = []; number = 7 })
a-number = refl

the-least-number : good_words (codes "--mode=gen" ∷ codes "0" ∷ []) ≡ Some (record { workers = 4; mode = mode.Gen; file = []; from = None; bindings = []; number = 0 })
the-least-number = refl

the-greatest-number : good_words (codes "4294967295" ∷ codes "--mode=gen" ∷ codes "--workers=16" ∷ []) ≡ Some (record { workers = 16; mode = mode.Gen; file = []; from = None; bindings = []; number = 4294967295 })
the-greatest-number = refl

file-of-digits : good_words (codes "7" ∷ []) ≡ Some (record { workers = 4; mode = mode.Run; file = codes "7"; from = None; bindings = []; number = 0 })
file-of-digits = refl

begun : good_words (codes "--from" ∷ codes "s" ∷ codes "p.sg" ∷ []) ≡ Some (record { workers = 4; mode = mode.Run; file = codes "p.sg"; from = Some (codes "s"); bindings = []; number = 0 })
begun = refl

-- a value after `=` may be anything but nothing, also `-`
begun-by-dash : good_words (codes "p.sg" ∷ codes "--from=-" ∷ codes "--mode=save" ∷ []) ≡ Some (record { workers = 4; mode = mode.Save; file = codes "p.sg"; from = Some (codes "-"); bindings = []; number = 0 })
begun-by-dash = refl

begun-with-equals : good_words (codes "--mode" ∷ codes "save" ∷ codes "--from=s=t" ∷ codes "--" ∷ codes "p.sg" ∷ []) ≡ Some (record { workers = 4; mode = mode.Save; file = codes "p.sg"; from = Some (codes "s=t"); bindings = []; number = 0 })
begun-with-equals = refl

saved : good_words (codes "--mode=save" ∷ codes "p.sg" ∷ []) ≡ Some (record { workers = 4; mode = mode.Save; file = codes "p.sg"; from = None; bindings = []; number = 0 })
saved = refl

advised : good_words (codes "--mode=advise" ∷ codes "p.sg" ∷ codes "--from=s" ∷ []) ≡ Some (record { workers = 4; mode = mode.Advise; file = codes "p.sg"; from = Some (codes "s"); bindings = []; number = 0 })
advised = refl

journaled : good_words (codes "--mode" ∷ codes "journal" ∷ codes "p.sg" ∷ codes "--from=s" ∷ []) ≡ Some (record { workers = 4; mode = mode.Journal; file = codes "p.sg"; from = Some (codes "s"); bindings = []; number = 0 })
journaled = refl

an-audit : good_words (codes "--mode=audit" ∷ codes "p.sg" ∷ codes "journal=j" ∷ []) ≡ Some (record {
  workers = 4;
  mode = mode.Audit;
  file = codes "p.sg";
  from = None;
  bindings = record { name = codes "journal"; file = codes "j" } ∷ [];
  number = 0;
})
unfolding is_name is_reserved
an-audit = refl

abbrev bad : List (List (List ℕ))
bad = [] ∷ (codes "-" ∷ []) ∷ ([] ∷ []) ∷ (codes "--" ∷ []) ∷ (codes "--workers" ∷ codes "17" ∷ codes "p.sg" ∷ [])
    ∷ (codes "--workers" ∷ codes "04" ∷ codes "p.sg" ∷ []) ∷ (codes "--workers=0" ∷ codes "p.sg" ∷ []) ∷ (codes "--workers=+4" ∷ codes "p.sg" ∷ [])
    ∷ (codes "--workers=" ∷ codes "p.sg" ∷ []) ∷ (codes "p.sg" ∷ codes "--workers" ∷ []) ∷ (codes "--workers" ∷ codes "--" ∷ codes "p.sg" ∷ [])
    ∷ (codes "--mode=go" ∷ codes "p.sg" ∷ []) ∷ (codes "--mode" ∷ codes "run" ∷ codes "--mode" ∷ codes "run" ∷ codes "p.sg" ∷ [])
    ∷ (codes "--help" ∷ []) ∷ (codes "-w" ∷ codes "p.sg" ∷ []) ∷ (codes "--" ∷ codes "--" ∷ codes "p.sg" ∷ [])
    ∷ (codes "p.sg" ∷ codes "x" ∷ []) ∷ (codes "p.sg" ∷ codes "x=" ∷ []) ∷ (codes "p.sg" ∷ codes "=a" ∷ []) ∷ (codes "p.sg" ∷ codes "load=a" ∷ [])
    ∷ (codes "p.sg" ∷ codes "1x=a" ∷ []) ∷ (codes "p.sg" ∷ codes "x=a" ∷ codes "x=b" ∷ []) ∷ (codes "--mode=gen" ∷ [])
    ∷ (codes "--mode=gen" ∷ codes "4294967296" ∷ []) ∷ (codes "--mode=gen" ∷ codes "07" ∷ []) ∷ (codes "--mode=gen" ∷ codes "+7" ∷ [])
    ∷ (codes "--mode=gen" ∷ codes "p.sg" ∷ []) ∷ (codes "--mode=gen" ∷ codes "7" ∷ codes "8" ∷ []) ∷ (codes "--mode=gen" ∷ codes "7" ∷ codes "x=a" ∷ [])
    ∷ (codes "--from" ∷ codes "-" ∷ codes "p.sg" ∷ []) ∷ (codes "--from" ∷ codes "-x" ∷ codes "p.sg" ∷ []) ∷ (codes "--from=" ∷ codes "p.sg" ∷ [])
    ∷ (codes "--from" ∷ [] ∷ codes "p.sg" ∷ []) ∷ (codes "p.sg" ∷ codes "--from" ∷ []) ∷ (codes "--from" ∷ codes "--" ∷ codes "p.sg" ∷ [])
    ∷ (codes "--from=s" ∷ codes "--from=s" ∷ codes "p.sg" ∷ []) ∷ (codes "--from=s" ∷ []) ∷ (codes "p.sg" ∷ codes "--" ∷ codes "--from=s" ∷ [])
    ∷ (codes "--from=s" ∷ codes "--mode=gen" ∷ codes "7" ∷ []) ∷ (codes "--from=s" ∷ codes "--mode=check" ∷ codes "p.sg" ∷ [])
    ∷ (codes "--from=s" ∷ codes "--mode=lower" ∷ codes "p.sg" ∷ []) ∷ (codes "--mode" ∷ codes "--from" ∷ codes "-" ∷ codes "p.sg" ∷ [])
    ∷ (codes "--mode=audit" ∷ codes "p.sg" ∷ []) ∷ (codes "--mode=audit" ∷ codes "p.sg" ∷ codes "x=a" ∷ [])
    ∷ (codes "--mode=audit" ∷ codes "p.sg" ∷ codes "journal=a" ∷ codes "x=b" ∷ [])
    ∷ (codes "--from=s" ∷ codes "--mode=audit" ∷ codes "p.sg" ∷ codes "journal=a" ∷ []) ∷ (codes "--mode=journals" ∷ codes "p.sg" ∷ []) ∷ []

bad-words : map good_words bad ≡ map (λ _. None) bad
unfolding is_name is_reserved
bad-words = refl

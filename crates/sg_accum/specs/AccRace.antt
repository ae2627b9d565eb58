-- A part of a pass as a race: each word of its table stands for one cell of the part. Every container counts as live.
use Rattle.std.specs.Prelude.{◌≡◌, refl, ℕ, ◌%◌, ◌^◌, ◌<◌, true, List, [], map, slice_index}
use Rattle.atomic_table.specs.Table.{Step, Me}
use Rattle.sg_words.specs.declared.operators.Ty.{Ty}
use Rattle.sg_words.specs.declared.operators.Ty.TheVariants as ty
use Rattle.sg_words.specs.declared.operators.AccOp.{AccOp}
use Rattle.sg_words.specs.declared.operators.AccOp.TheVariants as acc
use Rattle.sg_words.specs.declared.race.Worker.{Worker}
use Rattle.sg_words.specs.Words.{unrank_of, folded}
use Rattle.sg_words.specs.RaceMachine.{Setting, Race, newcomer, after_add}
use Rattle.sg_words.specs.RaceInvariant.{MeetsRaceInvariant}
use Rattle.sg_accum.specs.declared.begin.Start.{Start}

-- the cell for which a word stands: a sum grows in 64 bits and is cut to 32, for least and greatest the word is the cell's rank, and for
-- operators of bits it is the cell
abbrev pub cell_of : AccOp → Ty → ℕ → ℕ
cell_of acc.Add t n = n % 2 ^ 32
cell_of acc.Min t n = unrank_of t n
cell_of acc.Max t n = unrank_of t n
cell_of acc.Or t n = n
cell_of acc.And t n = n
cell_of acc.Xor t n = n

-- a word that stands for a cell: any of a sum, and a number of 32 bits else
abbrev pub IsEntry : AccOp → ℕ → Type 0
IsEntry acc.Add n = Unit {0}
IsEntry acc.Min n = n < 2 ^ 32
IsEntry acc.Max n = n < 2 ^ 32
IsEntry acc.Or n = n < 2 ^ 32
IsEntry acc.And n = n < 2 ^ 32
IsEntry acc.Xor n = n < 2 ^ 32

-- each word stands for a cell: for sums any words do, and else those below 2 ^ 32
abbrev pub AreEntries : AccOp → List ℕ → Type 0
AreEntries op words = (c : ℕ) → IsEntry op (slice_index words c)

-- the setting of a race for cells alone: the values at the start, into which contributions go by the part's operator and type
abbrev pub setting_of : Start → Setting
setting_of start = record {
  slots = [];
  keys = [];
  masks = [];
  lengths = [];
  cells = start.values;
  nodes = 0;
  stock = λ _. [];
  node = λ _. 0;
  over_slot = λ _. (0, 0);
  over_bit = λ _. (0, 0);
  over_length = λ _. (0, 0);
  live = λ _. true;
  into = folded start.op start.ty;
  told = [];
}

-- the state of the race in which the cells are those for which words stand, these are the workers, and there is nothing else
abbrev pub race_of : Start → List ℕ → List Worker → Race
race_of start words views = record { slots = []; keys = []; masks = []; lengths = []; cells = map (cell_of start.op start.ty) words; counts = []; workers = views }

-- between any two atomic steps the cells and the views are a state of the race machine that meets its invariant
pub record Racing (start : Start) (words : List ℕ) (views : List Worker) : Type 0 where
  pub kept : MeetsRaceInvariant (setting_of start) (race_of start words views)
  pub low : AreEntries start.op words

-- the first seat is the first worker
abbrev pub first_worker : Worker
first_worker = newcomer [] 16

-- a step at a word with the rank of a contribution, in a type: it was given to that cell. As U32 the rank is the contribution itself
abbrev pub gives : Ty → Step (Unit {0}) → Me (Unit {0}) Worker → ℕ → Me (Unit {0}) Worker → Type 0
gives t st m found n = n ≡ (after_add st.word (unrank_of t st.first) m.0, m.1)

-- worked equations
cut_sum : cell_of acc.Add ty.I32 4294967299 ≡ 3
cut_sum = refl

least_of_all : cell_of acc.Min ty.I32 0 ≡ 2147483648
least_of_all = refl

plain_rank : cell_of acc.Max ty.U32 7 ≡ 7
plain_rank = refl

bits_as_they_are : cell_of acc.Or ty.I32 2147483648 ≡ 2147483648
bits_as_they_are = refl

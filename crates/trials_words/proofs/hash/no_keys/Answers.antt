use Rattle.std.proofs.Common.{◌≡◌, subst, sym}
use Rattle.sg_hash.specs.Tables.{IsTable, AreBeside}
use Rattle.sg_hash.proofs.Uses.{empty_table, empty_beside}
use Rattle.trials_words.proofs.hash.no_keys.Goals as goal

use Rattle.std.proofs.Common.{◌≡◌, map, drop}
use Rattle.sg_outside.specs.MemFiles.{entry_of, bytes_named}
use Rattle.sg_outside.proofs.mem_files.find_file.Given as goal

-- the files from here on have the same first file of this name
abbrev pub invariant-loop-file : goal.invariant-loop-file
invariant-loop-file l =
    bytes_named (map entry_of (drop l.file-index l.files)) l.name ≡ bytes_named (map entry_of l.files) l.name

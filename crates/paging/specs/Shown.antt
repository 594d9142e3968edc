-- How entries, faults and a frame that is too large are printed.
use Rattle.std.specs.Prelude.{ℕ, Bool, cond, List, ◌++◌, codes, decimal}
use Rattle.paging.specs.declared.page.Entry.{Entry}
use Rattle.paging.specs.declared.page.Entry.TheVariants.{Absent, Present}
use Rattle.paging.specs.declared.page.Fault.{Fault}

-- the letter where the flag is set, else a dash
abbrev pub flag_text : Bool → List ℕ → List ℕ
flag_text set name = cond set name (codes "-")

-- `absent`, or the frame and the letters of the bits that are set, as `3:wa` and `3:--`
abbrev pub entry_text : Entry → List ℕ
entry_text Absent = codes "absent"
entry_text (Present frame write accessed) =
    decimal frame ++ (codes ":" ++ (flag_text write (codes "w") ++ flag_text accessed (codes "a")))

-- the process and the page, as `0:11`
abbrev pub fault_text : Fault → List ℕ
fault_text f = decimal f.process ++ (codes ":" ++ decimal f.page)

-- what is said of a frame that no entry can hold
abbrev pub frame_too_large_text : List ℕ
frame_too_large_text = codes "the frame is too large for an entry"

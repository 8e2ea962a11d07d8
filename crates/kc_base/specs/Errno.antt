-- The table of error numbers.
use Rattle.std.specs.Prelude.{ℕ, List, codes}
use Rattle.kc_base.specs.declared.error_numbers.Errno.{Errno}
use Rattle.kc_base.specs.declared.error_numbers.Errno.TheVariants.{ENOENT, E2BIG, EAGAIN, EBUSY, EEXIST, EINVAL, ENFILE, EMFILE, ENOSPC, ENAMETOOLONG, EBADMSG, EINPROGRESS, ENOKEY}

-- Linux's number of an error
abbrev pub number_of : Errno → ℕ
number_of ENOENT = 2
number_of E2BIG = 7
number_of EAGAIN = 11
number_of EBUSY = 16
number_of EEXIST = 17
number_of EINVAL = 22
number_of ENFILE = 23
number_of EMFILE = 24
number_of ENOSPC = 28
number_of ENAMETOOLONG = 36
number_of EBADMSG = 74
number_of EINPROGRESS = 115
number_of ENOKEY = 126

-- the name that an answer prints
abbrev pub name_of : Errno → List ℕ
name_of ENOENT = codes "ENOENT"
name_of E2BIG = codes "E2BIG"
name_of EAGAIN = codes "EAGAIN"
name_of EBUSY = codes "EBUSY"
name_of EEXIST = codes "EEXIST"
name_of EINVAL = codes "EINVAL"
name_of ENFILE = codes "ENFILE"
name_of EMFILE = codes "EMFILE"
name_of ENOSPC = codes "ENOSPC"
name_of ENAMETOOLONG = codes "ENAMETOOLONG"
name_of EBADMSG = codes "EBADMSG"
name_of EINPROGRESS = codes "EINPROGRESS"
name_of ENOKEY = codes "ENOKEY"

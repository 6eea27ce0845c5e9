-- The sizes and limits of the format and of the rules, each named once. A reader has to believe this file. Assumes nothing.
use Rattle.std.specs.Prelude.{ℕ, ◌+◌, ◌*◌, ◌/◌}

-- form B: the table of contents has five rows of eight bytes
abbrev pub contents_bytes : ℕ
contents_bytes = 40

-- form C: the bytes of a record; an entry's are those of the first edition
abbrev pub inode_size : ℕ
inode_size = 32

abbrev pub entry_size : ℕ
entry_size = 32

-- the widest entry of any edition that the laws hold for
abbrev pub widest_entry : ℕ
widest_entry = 48

abbrev pub text_size : ℕ
text_size = 64

abbrev pub handle_size : ℕ
handle_size = 8

abbrev pub journal_size : ℕ
journal_size = 32

-- form E: where in an entry its name begins, which has the rest
abbrev pub name_offset : ℕ
name_offset = 8

-- form F and rule 11: the bytes that a record has for a text
abbrev pub text_room : ℕ
text_room = 63

-- form D: nothing on a file system of this number or a higher one is changed
abbrev pub first_read_only : ℕ
first_read_only = 128

-- form H: the number that names no replaced inode and no text
abbrev pub absent : ℕ
absent = 65535

-- rule 5: the most records of a section; the most entries are those of the first edition
abbrev pub inode_limit : ℕ
inode_limit = 512

abbrev pub entry_limit : ℕ
entry_limit = 1024

abbrev pub text_limit : ℕ
text_limit = 64

abbrev pub handle_limit : ℕ
handle_limit = 16

-- rule 19: modes are below this
abbrev pub mode_limit : ℕ
mode_limit = 4096

-- rule 70: the bit of a mode by which a directory is sticky
abbrev pub sticky_bit : ℕ
sticky_bit = 512

-- rule 34: the most links of an inode
abbrev pub link_limit : ℕ
link_limit = 64

-- rule 41: the start that stands for the current directory
abbrev pub no_handle : ℕ
no_handle = 255

-- rule 42: the most groups of a caller beside the effective one
abbrev pub group_limit : ℕ
group_limit = 16

-- rules 47 and 57: how long a path may be, as supplied and with a symlink's text in it
abbrev pub path_limit : ℕ
path_limit = 255

-- the bytes of a working path, as the build description has it
abbrev pub path_bytes : ℕ
path_bytes = 256

-- rule 56: how many symlinks one path may lead through
abbrev pub symlink_limit : ℕ
symlink_limit = 40

-- how many components a path can have: each has a byte and, but for the last, a slash
abbrev pub path_components : ℕ
path_components = (path_limit + 1) / 2

-- rule 61: what a walk is bounded by: so many components in each of the paths that it may go through
abbrev pub step_limit : ℕ
step_limit = path_components * (symlink_limit + 1)

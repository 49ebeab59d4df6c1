-- The options by which files are opened (std's `OpenOptions`).
use Rattle.std.specs.Prelude.{true}
use Rattle.std.specs.Fs.{new_options, with_read, with_write, with_append, with_create_new}
use Rattle.std.specs.declared.fs.options.OpenOptions.{OpenOptions}

-- a file that exists, to read
abbrev pub reading : OpenOptions
reading = with_read new_options true

-- a new file at a path without an entry: an entry that exists, even a link, is refused
abbrev pub creating : OpenOptions
creating = with_create_new (with_write new_options true) true

-- the same, and each write goes to its end
abbrev pub creating_to_append : OpenOptions
creating_to_append = with_create_new (with_append new_options true) true

-- a file that exists, to write, and to read too; it is not truncated
abbrev pub updating : OpenOptions
updating = with_write (with_read new_options true) true

abbrev pub overwriting : OpenOptions
overwriting = with_write new_options true

-- a file that exists, and each write goes to its end
abbrev pub updating_at_end : OpenOptions
updating_at_end = with_append (with_read new_options true) true

abbrev pub appending : OpenOptions
appending = with_append new_options true

-- The faults of a file that is not made are those of a listing and of a file that is not opened.
use Rattle.std.proofs.Common.{◌≡◌, ◌≢◌, ℕ}
use Rattle.virtual_path.specs.Path.{Path}
use Rattle.virtual_tree.specs.declared.fault.StoreFault.{StoreFault}
use Rattle.virtual_tree.specs.declared.fault.StoreFault.TheVariants.{Device, Exists, Full, Inside, IsDir, Memory, NotDir, NotEmpty, NotFound, PastEnd}
use Rattle.page_store.specs.Pages.{IsFaultAt, IsUnlisted, IsUnopened, Showing}

pub unopened : (Shows : Showing) (path : Path) (offset : ℕ) (fault : StoreFault) → IsFaultAt Shows path fault → IsUnopened Shows path offset fault
unopened Shows path offset IsDir is = is
unopened Shows path offset NotFound is = is
unopened Shows path offset Device is = is
unopened Shows path offset Memory is = is
unopened Shows path offset PastEnd is = absurd is
unopened Shows path offset NotDir is = is
unopened Shows path offset Exists is = is
unopened Shows path offset NotEmpty is = is
unopened Shows path offset Full is = is
unopened Shows path offset Inside is = is

pub unlisted : (Shows : Showing) (path : Path) (fault : StoreFault) → IsFaultAt Shows path fault → IsUnlisted Shows path fault
unlisted Shows path IsDir is = is
unlisted Shows path NotFound is = is
unlisted Shows path Device is = is
unlisted Shows path Memory is = is
unlisted Shows path PastEnd is = is
unlisted Shows path NotDir is = absurd is
unlisted Shows path Exists is = is
unlisted Shows path NotEmpty is = is
unlisted Shows path Full is = is
unlisted Shows path Inside is = is

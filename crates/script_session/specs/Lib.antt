pub mod Served
pub mod Scripts
pub use Rattle.session_host.specs.Sessions
pub use Rattle.session_host.specs.ControlFault
pub use Rattle.session_host.specs.Breaks

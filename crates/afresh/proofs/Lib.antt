pub mod RecountLaws
pub mod ClearedLaws
pub mod Inodes
pub mod AfreshLaws
pub mod ExchangeRecountLaws
pub mod ExchangeAfreshLaws

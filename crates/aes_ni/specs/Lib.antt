pub mod RoundKeys
pub mod Key

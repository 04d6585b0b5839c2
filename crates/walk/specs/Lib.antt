-- What the contracts of the walks speak of: one walk, page by page, and what the walks of all slots leave.
pub mod Walks
pub mod Tables
